-- What the halfwords of compressed operations decode to, with their operands ("RVC Instruction Set Listings" and "Zcb"), and
-- the flags that this needs. Where the manual reserves an operand, the others are asked for.
use Rattle.std.specs.Prelude.{◌≡◌, ℕ, ◌*◌, ◌^◌, ◌<◌, ◌&&◌, ◌≢◌, ⊤, Bool, ℤ, pos, negsuc, Option, Some, None}
use Rattle.rv_base.specs.declared.flags.IsaFlags.{IsaFlags}
use Rattle.rv_imms.specs.Bits.{low_bits}
use Rattle.rv_ops.specs.declared.compressed.CrOp.{CrOp}
use Rattle.rv_ops.specs.declared.compressed.CrOp.TheVariants.{CMv, CAdd, CJr, CJalr, CEbreak}
use Rattle.rv_ops.specs.declared.compressed.CaOp.{CaOp}
use Rattle.rv_ops.specs.declared.compressed.CaOp.TheVariants.{CAnd, COr, CXor, CSub, CAddw, CSubw, CMul}
use Rattle.rv_ops.specs.declared.compressed.CiOp.{CiOp}
use Rattle.rv_ops.specs.declared.compressed.CiOp.TheVariants.{CAddi, CAddiw, CAddi16sp, CSlli, CLi, CLui, CLwsp, CLdsp}
use Rattle.rv_ops.specs.declared.compressed.CbOp.{CbOp}
use Rattle.rv_ops.specs.declared.compressed.CbOp.TheVariants.{CSrli, CSrai, CAndi}
use Rattle.rv_ops.specs.declared.compressed.CssOp.{CssOp}
use Rattle.rv_ops.specs.declared.compressed.CssOp.TheVariants.{CSwsp, CSdsp}
use Rattle.rv_ops.specs.declared.compressed.CsOp.{CsOp}
use Rattle.rv_ops.specs.declared.compressed.CsOp.TheVariants.{CSw, CSd}
use Rattle.rv_ops.specs.declared.compressed.ClOp.{ClOp}
use Rattle.rv_ops.specs.declared.compressed.ClOp.TheVariants.{CLw, CLd}
use Rattle.rv_ops.specs.declared.compressed.CsznOp.{CsznOp}
use Rattle.rv_ops.specs.declared.compressed.CsznOp.TheVariants.{CNot, CZextb, CZexth, CZextw, CSextb, CSexth}
use Rattle.rv_ops.specs.declared.compressed.ZcbMemOp.{ZcbMemOp}
use Rattle.rv_ops.specs.declared.compressed.ZcbMemOp.TheVariants.{CLbu, CLhu, CLh, CSb, CSh}
use Rattle.rv_ops.specs.declared.memory.LoadOP.{LoadOP}
use Rattle.rv_ops.specs.declared.memory.LoadOP.TheVariants as loads
use Rattle.rv_ops.specs.declared.memory.StoreOP.{StoreOP}
use Rattle.rv_ops.specs.declared.memory.StoreOP.TheVariants as stores
use Rattle.rv_ops.specs.Memory.{load_size, store_size}
use Rattle.rv_machine.specs.declared.decoding.Decoded.{Decoded}
use Rattle.rv_machine.specs.declared.ops.MOp.TheVariants.{Base, Load, Store, Alu, FloatLoad, FloatStore}
use Rattle.rv_machine.specs.declared.ops.BaseOp.TheVariants as base
use Rattle.rv_machine.specs.declared.ops.FloatFormat.TheVariants.{D}
use Rattle.rv_machine.specs.declared.ops.AluOp.{AluOp}
use Rattle.rv_machine.specs.declared.ops.AluOp.TheVariants.{Int, Mul, Bit}
use Rattle.rv_machine.specs.declared.ops.IntOp.TheVariants as int
use Rattle.rv_machine.specs.declared.ops.MulOp.TheVariants as mul
use Rattle.rv_machine.specs.declared.ops.BitOp.TheVariants as bit
use Rattle.rv_machine.specs.Layout.{compressed}
use Rattle.rv_machine.specs.Compressed.{ci_bits, addi16sp_bits, lwsp_imm, ldsp_imm, swsp_imm, sdsp_imm, lw_imm, ld_imm}
use Rattle.rv_ops.specs.Compressed.{space_bits, zcb_numbers}
use Rattle.rv_encode.specs.Layouts.{IsClbType, IsClhType}
use Rattle.rv_encode.specs.Operations.{load_op, store_op}

-- ---- CR

-- c.mv, c.ebreak and c.add; c.jr and c.jalr have no rs2
abbrev pub DecodesCr : CrOp → ℕ → ℕ → Option Decoded → Type 0
DecodesCr CJr rd rs2 d = ⊤
DecodesCr CMv rd rs2 d = 0 < rs2 → d ≡ Some (compressed (Alu (Int int.Add)) rd 0 rs2 (pos 0))
DecodesCr CEbreak rd rs2 d = rd ≡ 0 → rs2 ≡ 0 → d ≡ Some (compressed (Base base.Ebreak) 0 0 0 (pos 0))
DecodesCr CJalr rd rs2 d = ⊤
DecodesCr CAdd rd rs2 d = 0 < rs2 → d ≡ Some (compressed (Alu (Int int.Add)) rd rd rs2 (pos 0))

-- c.jr and c.jalr, whose rs2 is 0
abbrev pub DecodesCr2 : CrOp → ℕ → Option Decoded → Type 0
DecodesCr2 CJr rs1 d = 0 < rs1 → d ≡ Some (compressed (Base base.Jalr) 0 rs1 0 (pos 0))
DecodesCr2 CMv rs1 d = ⊤
DecodesCr2 CEbreak rs1 d = ⊤
DecodesCr2 CJalr rs1 d = 0 < rs1 → d ≡ Some (compressed (Base base.Jalr) 1 rs1 0 (pos 0))
DecodesCr2 CAdd rs1 d = ⊤

-- ---- CA

abbrev pub ca_op : CaOp → AluOp
ca_op CSub = Int int.Sub
ca_op CXor = Int int.Xor
ca_op COr = Int int.Or
ca_op CAnd = Int int.And
ca_op CSubw = Int int.Subw
ca_op CAddw = Int int.Addw
ca_op CMul = Mul mul.Mul

abbrev pub ca_needs : IsaFlags → CaOp → Bool
ca_needs flags CSub = flags.has_zca
ca_needs flags CXor = flags.has_zca
ca_needs flags COr = flags.has_zca
ca_needs flags CAnd = flags.has_zca
ca_needs flags CSubw = flags.has_zca
ca_needs flags CAddw = flags.has_zca
ca_needs flags CMul = flags.has_zca && flags.has_zcb && flags.has_m

-- ---- CI

-- all but c.addi16sp, c.lwsp and c.ldsp, whose immediates have layouts of their own; a shift takes the six bits as its amount
abbrev pub DecodesCi : CiOp → ℕ → ℤ → Option Decoded → Type 0
DecodesCi CAddi rd imm d = d ≡ Some (compressed (Alu (Int int.Addi)) rd rd 0 imm)
DecodesCi CAddiw rd imm d = 0 < rd → d ≡ Some (compressed (Alu (Int int.Addiw)) rd rd 0 imm)
DecodesCi CLi rd imm d = d ≡ Some (compressed (Alu (Int int.Addi)) rd 0 0 imm)
DecodesCi CAddi16sp rd imm d = ⊤
DecodesCi CLui rd imm d = rd ≢ 2 → imm ≢ pos 0 → d ≡ Some (compressed (Base base.Lui) rd 0 0 imm)
DecodesCi CSlli rd imm d = d ≡ Some (compressed (Alu (Int int.Slli)) rd rd 0 (pos (low_bits (2 ^ 6) imm)))
DecodesCi CLwsp rd imm d = ⊤
DecodesCi CLdsp rd imm d = ⊤

-- the load past the stack pointer
abbrev pub sp_load : CiOp → Option LoadOP
sp_load CAddi = None
sp_load CAddiw = None
sp_load CLi = None
sp_load CAddi16sp = None
sp_load CLui = None
sp_load CSlli = None
sp_load CLwsp = Some loads.Lw
sp_load CLdsp = Some loads.Ld

-- how the halfword's immediate is read
abbrev pub read_of : CiOp → ℕ → ℕ
read_of CAddi = ci_bits
read_of CAddiw = ci_bits
read_of CLi = ci_bits
read_of CAddi16sp = addi16sp_bits
read_of CLui = ci_bits
read_of CSlli = ci_bits
read_of CLwsp = lwsp_imm
read_of CLdsp = ldsp_imm

-- a load's immediate counts what it reads
abbrev pub decoded_sp_load : LoadOP → ℕ → ℕ → Decoded
decoded_sp_load load rd imm = compressed (Load (load_op load)) rd 2 0 (pos (load_size load * imm))

-- ---- CB

abbrev pub decoded_cb : CbOp → ℕ → ℤ → Decoded
decoded_cb CSrli rd imm = compressed (Alu (Int int.Srli)) rd rd 0 (pos (low_bits (2 ^ 6) imm))
decoded_cb CSrai rd imm = compressed (Alu (Int int.Srai)) rd rd 0 (pos (low_bits (2 ^ 6) imm))
decoded_cb CAndi rd imm = compressed (Alu (Int int.Andi)) rd rd 0 imm

-- ---- CSS, CS and CL: the immediate counts what the access reads or writes

abbrev pub css_store : CssOp → StoreOP
css_store CSwsp = stores.Sw
css_store CSdsp = stores.Sd

-- how the halfword's immediate is read
abbrev pub css_read : CssOp → ℕ → ℕ
css_read CSwsp = swsp_imm
css_read CSdsp = sdsp_imm

abbrev pub decoded_css : CssOp → ℕ → ℕ → Decoded
decoded_css op src imm = compressed (Store (store_op (css_store op))) 0 2 src (pos (store_size (css_store op) * imm))

abbrev pub cs_store : CsOp → StoreOP
cs_store CSw = stores.Sw
cs_store CSd = stores.Sd

abbrev pub cs_read : CsOp → ℕ → ℕ
cs_read CSw = lw_imm
cs_read CSd = ld_imm

abbrev pub decoded_cs : CsOp → ℕ → ℕ → ℕ → Decoded
decoded_cs op src base imm = compressed (Store (store_op (cs_store op))) 0 base src (pos (store_size (cs_store op) * imm))

abbrev pub cl_load : ClOp → LoadOP
cl_load CLw = loads.Lw
cl_load CLd = loads.Ld

abbrev pub cl_read : ClOp → ℕ → ℕ
cl_read CLw = lw_imm
cl_read CLd = ld_imm

abbrev pub decoded_cl : ClOp → ℕ → ℕ → ℕ → Decoded
decoded_cl op dest base imm = compressed (Load (load_op (cl_load op))) dest base 0 (pos (load_size (cl_load op) * imm))

-- ---- loads and stores of floating-point registers, whose immediate counts doublewords

abbrev pub decoded_fld : ℕ → ℕ → ℕ → Decoded
decoded_fld dest base imm = compressed (FloatLoad D) dest base 0 (pos (8 * imm))

abbrev pub decoded_fsd : ℕ → ℕ → ℕ → Decoded
decoded_fsd src base imm = compressed (FloatStore D) 0 base src (pos (8 * imm))

abbrev pub decoded_fldsp : ℕ → ℕ → Decoded
decoded_fldsp rd imm = compressed (FloatLoad D) rd 2 0 (pos (8 * imm))

abbrev pub decoded_fsdsp : ℕ → ℕ → Decoded
decoded_fsdsp src imm = compressed (FloatStore D) 0 2 src (pos (8 * imm))

-- ---- Zcb

abbrev pub decoded_cszn : CsznOp → ℕ → Decoded
decoded_cszn CZextb rd = compressed (Alu (Int int.Andi)) rd rd 0 (pos 255)
decoded_cszn CSextb rd = compressed (Alu (Bit bit.SextB)) rd rd 0 (pos 0)
decoded_cszn CZexth rd = compressed (Alu (Bit bit.ZextH)) rd rd 0 (pos 0)
decoded_cszn CSexth rd = compressed (Alu (Bit bit.SextH)) rd rd 0 (pos 0)
decoded_cszn CZextw rd = compressed (Alu (Bit bit.AddUw)) rd rd 0 (pos 0)
decoded_cszn CNot rd = compressed (Alu (Int int.Xori)) rd rd 0 (negsuc 0)

abbrev pub cszn_needs : IsaFlags → CsznOp → Bool
cszn_needs flags CZextb = flags.has_zca && flags.has_zcb
cszn_needs flags CSextb = flags.has_zca && flags.has_zcb && flags.has_zbb
cszn_needs flags CZexth = flags.has_zca && flags.has_zcb && flags.has_zbb
cszn_needs flags CSexth = flags.has_zca && flags.has_zcb && flags.has_zbb
cszn_needs flags CZextw = flags.has_zca && flags.has_zcb && flags.has_zba
cszn_needs flags CNot = flags.has_zca && flags.has_zcb

-- a load's or a store's register, its base and its immediate, which counts what it reads or writes
abbrev pub decoded_zcb : ZcbMemOp → ℕ → ℕ → ℕ → Decoded
decoded_zcb CLbu r base imm = compressed (Load (load_op loads.Lbu)) r base 0 (pos imm)
decoded_zcb CLhu r base imm = compressed (Load (load_op loads.Lhu)) r base 0 (pos (2 * imm))
decoded_zcb CLh r base imm = compressed (Load (load_op loads.Lh)) r base 0 (pos (2 * imm))
decoded_zcb CSb r base imm = compressed (Store (store_op stores.Sb)) 0 base r (pos imm)
decoded_zcb CSh r base imm = compressed (Store (store_op stores.Sh)) 0 base r (pos (2 * imm))

-- the fields of a load or a store of a byte, or of a halfword, with the operation's bit 6
abbrev pub IsZcbType : ZcbMemOp → ℕ → ℕ → ℕ → ℕ → Type 0
IsZcbType CLbu half r imm rs1 = IsClbType half (space_bits (zcb_numbers CLbu).space) r imm rs1 (zcb_numbers CLbu).funct6
IsZcbType CLhu half r imm rs1 = IsClhType half (space_bits (zcb_numbers CLhu).space) r (2 * imm) 0 rs1 (zcb_numbers CLhu).funct6
IsZcbType CLh half r imm rs1 = IsClhType half (space_bits (zcb_numbers CLh).space) r (2 * imm) 1 rs1 (zcb_numbers CLh).funct6
IsZcbType CSb half r imm rs1 = IsClbType half (space_bits (zcb_numbers CSb).space) r imm rs1 (zcb_numbers CSb).funct6
IsZcbType CSh half r imm rs1 = IsClhType half (space_bits (zcb_numbers CSh).space) r (2 * imm) 0 rs1 (zcb_numbers CSh).funct6

abbrev pub zcb_needs : IsaFlags → Bool
zcb_needs flags = flags.has_zca && flags.has_zcb
