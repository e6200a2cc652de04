-- Operations on control and status registers, and these registers, by their names.
use Rattle.std.specs.Prelude.{ℕ, List, [], ◌∷◌, Option}
use Rattle.std.specs.List.{find}
use Rattle.std.specs.Str.{bytes_eq}
use Rattle.rv_ops.specs.declared.csr.CsrRegOP.{CsrRegOP}
use Rattle.rv_ops.specs.declared.csr.CsrRegOP.TheVariants.{CsrRW, CsrRS, CsrRC}
use Rattle.rv_ops.specs.declared.csr.CsrImmOP.{CsrImmOP}
use Rattle.rv_ops.specs.declared.csr.CsrImmOP.TheVariants.{CsrRWI, CsrRSI, CsrRCI}
use Rattle.rv_ops.specs.declared.csr.CSR.{CSR}
use Rattle.rv_ops.specs.declared.csr.CSR.TheVariants.{Frm}
use Rattle.rv_ops.specs.Csr.{csr_reg_name, csr_imm_name, csr_name}

-- the operation of a register that has this mnemonic
unfoldable pub csr_reg : List ℕ → Option CsrRegOP
csr_reg w = find (λ op. bytes_eq w (csr_reg_name op)) (CsrRW ∷ CsrRS ∷ CsrRC ∷ [])

-- that of an immediate
unfoldable pub csr_imm : List ℕ → Option CsrImmOP
csr_imm w = find (λ op. bytes_eq w (csr_imm_name op)) (CsrRWI ∷ CsrRSI ∷ CsrRCI ∷ [])

-- the register of this name
unfoldable pub csr : List ℕ → Option CSR
csr w = find (λ register. bytes_eq w (csr_name register)) (Frm ∷ [])
