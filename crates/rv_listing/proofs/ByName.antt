-- Each of the names that are tried in order is read as what it names.
use Rattle.std.proofs.Common.{◌≡◌, Some, refl}
use Rattle.rv_ops.specs.declared.fpu.FpuOPRRRR.{FpuOPRRRR}
use Rattle.rv_ops.specs.declared.fpu.FpuOPRRRR.TheVariants.{Fmadd}
use Rattle.rv_ops.specs.declared.fpu_rr.FpuOPRR.{FpuOPRR}
use Rattle.rv_ops.specs.declared.fpu_rr.FpuOPRR.TheVariants.{Fsqrt}
use Rattle.rv_ops.specs.declared.csr.CsrRegOP.{CsrRegOP}
use Rattle.rv_ops.specs.declared.csr.CsrRegOP.TheVariants.{CsrRW}
use Rattle.rv_ops.specs.declared.csr.CsrImmOP.{CsrImmOP}
use Rattle.rv_ops.specs.declared.csr.CsrImmOP.TheVariants.{CsrRWI}
use Rattle.rv_ops.specs.declared.csr.CSR.{CSR}
use Rattle.rv_ops.specs.declared.csr.CSR.TheVariants.{Frm}
use Rattle.rv_ops.specs.declared.atomic.AMO.{AMO}
use Rattle.rv_ops.specs.declared.atomic.AMO.TheVariants.{Relax}
use Rattle.rv_ops.specs.declared.atomic.AtomicOP.{AtomicOP}
use Rattle.rv_ops.specs.declared.atomic.AtomicOP.TheVariants.{LrW}
use Rattle.rv_ops.specs.Atomic.{atomic_name}
use Rattle.rv_listing.specs.Atomics.{amo, amo_name, atomic_op, every_atomic}
use Rattle.rv_ops.specs.Csr.{csr_reg_name, csr_imm_name, csr_name}
use Rattle.rv_ops.specs.Fpu.{fpu_rr_listed, fpu_rrrr_listed}
use Rattle.rv_listing.specs.Csr.{csr_reg, csr_imm, csr}
use Rattle.rv_listing.specs.Floats.{every_fpu_rr, fpu_rr, fpu_rrrr}

pub fpu_rr_found : (x : FpuOPRR) → fpu_rr (fpu_rr_listed x) ≡ Some x
unfolding fpu_rr every_fpu_rr
fpu_rr_found Fsqrt = refl
fpu_rr_found _ = refl

pub fpu_rrrr_found : (x : FpuOPRRRR) → fpu_rrrr (fpu_rrrr_listed x) ≡ Some x
unfolding fpu_rrrr
fpu_rrrr_found Fmadd = refl
fpu_rrrr_found _ = refl

pub csr_reg_found : (x : CsrRegOP) → csr_reg (csr_reg_name x) ≡ Some x
unfolding csr_reg
csr_reg_found CsrRW = refl
csr_reg_found _ = refl

pub csr_imm_found : (x : CsrImmOP) → csr_imm (csr_imm_name x) ≡ Some x
unfolding csr_imm
csr_imm_found CsrRWI = refl
csr_imm_found _ = refl

pub csr_found : (x : CSR) → csr (csr_name x) ≡ Some x
unfolding csr
csr_found Frm = refl

pub atomic_found : (x : AtomicOP) → atomic_op (atomic_name x) ≡ Some x
unfolding atomic_op every_atomic
atomic_found LrW = refl
atomic_found _ = refl

pub amo_found : (x : AMO) → amo (amo_name x) ≡ Some x
unfolding amo
amo_found Relax = refl
amo_found _ = refl
