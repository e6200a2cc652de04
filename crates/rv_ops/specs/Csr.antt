-- Operations on control and status registers (chapter "Zicsr"), and frm: their funct3, the machine's operation of each, their
-- names, and the CSR's number.
use Rattle.std.specs.Prelude.{ℕ, List, codes}
use Rattle.rv_machine.specs.declared.ops.CsrOp.{CsrOp}
use Rattle.rv_machine.specs.declared.ops.CsrOp.TheVariants.{Csrrw, Csrrs, Csrrc, Csrrwi, Csrrsi, Csrrci}
use Rattle.rv_ops.specs.declared.csr.CsrRegOP.{CsrRegOP}
use Rattle.rv_ops.specs.declared.csr.CsrRegOP.TheVariants.{CsrRW, CsrRS, CsrRC}
use Rattle.rv_ops.specs.declared.csr.CsrImmOP.{CsrImmOP}
use Rattle.rv_ops.specs.declared.csr.CsrImmOP.TheVariants.{CsrRWI, CsrRSI, CsrRCI}
use Rattle.rv_ops.specs.declared.csr.CSR.{CSR}
use Rattle.rv_ops.specs.declared.csr.CSR.TheVariants.{Frm}

-- ---- of a register

abbrev pub csr_reg_funct3 : CsrRegOP → ℕ
csr_reg_funct3 CsrRW = 1
csr_reg_funct3 CsrRS = 2
csr_reg_funct3 CsrRC = 3

abbrev pub csr_reg_op : CsrRegOP → CsrOp
csr_reg_op CsrRW = Csrrw
csr_reg_op CsrRS = Csrrs
csr_reg_op CsrRC = Csrrc

abbrev pub csr_reg_name : CsrRegOP → List ℕ
csr_reg_name CsrRW = codes "csrrw"
csr_reg_name CsrRS = codes "csrrs"
csr_reg_name CsrRC = codes "csrrc"

-- ---- of an immediate

abbrev pub csr_imm_funct3 : CsrImmOP → ℕ
csr_imm_funct3 CsrRWI = 5
csr_imm_funct3 CsrRSI = 6
csr_imm_funct3 CsrRCI = 7

abbrev pub csr_imm_op : CsrImmOP → CsrOp
csr_imm_op CsrRWI = Csrrwi
csr_imm_op CsrRSI = Csrrsi
csr_imm_op CsrRCI = Csrrci

abbrev pub csr_imm_name : CsrImmOP → List ℕ
csr_imm_name CsrRWI = codes "csrrwi"
csr_imm_name CsrRSI = codes "csrrsi"
csr_imm_name CsrRCI = codes "csrrci"

-- ---- the register

abbrev pub csr_number : CSR → ℕ
csr_number Frm = 0x002

abbrev pub csr_name : CSR → List ℕ
csr_name Frm = codes "frm"
