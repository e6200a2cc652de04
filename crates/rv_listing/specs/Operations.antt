-- Operations by their names.
use Rattle.std.specs.Prelude.{ℕ, List, [], ◌∷◌, Option}
use Rattle.std.specs.List.{find}
use Rattle.std.specs.Str.{bytes_eq}
use Rattle.rv_ops.specs.declared.alu.AluOPRRR.{AluOPRRR}
use Rattle.rv_ops.specs.declared.alu.AluOPRRR.TheVariants as rrr
use Rattle.rv_ops.specs.declared.alu.AluOPRRI.{AluOPRRI}
use Rattle.rv_ops.specs.declared.alu.AluOPRRI.TheVariants as rri
use Rattle.rv_ops.specs.declared.memory.LoadOP.{LoadOP}
use Rattle.rv_ops.specs.declared.memory.LoadOP.TheVariants.{Lb, Lh, Lw, Lbu, Lhu, Lwu, Ld, Flh, Flw, Fld}
use Rattle.rv_ops.specs.declared.memory.StoreOP.{StoreOP}
use Rattle.rv_ops.specs.declared.memory.StoreOP.TheVariants.{Sb, Sh, Sw, Sd, Fsh, Fsw, Fsd}
use Rattle.rv_ops.specs.Alu.{rrr_name, rri_name}
use Rattle.rv_ops.specs.Memory.{load_name, store_name}

unfoldable pub every_rrr : List AluOPRRR
every_rrr =
    rrr.Add ∷ rrr.Sub ∷ rrr.Sll ∷ rrr.Slt ∷ rrr.Sgt ∷ rrr.SltU ∷ rrr.Sgtu ∷ rrr.Xor ∷ rrr.Srl ∷ rrr.Sra ∷ rrr.Or ∷
    rrr.And ∷ rrr.Addw ∷ rrr.Subw ∷ rrr.Sllw ∷ rrr.Srlw ∷ rrr.Sraw ∷ rrr.Mul ∷ rrr.Mulh ∷ rrr.Mulhsu ∷ rrr.Mulhu ∷
    rrr.Div ∷ rrr.DivU ∷ rrr.Rem ∷ rrr.RemU ∷ rrr.Mulw ∷ rrr.Divw ∷ rrr.Divuw ∷ rrr.Remw ∷ rrr.Remuw ∷ rrr.Adduw ∷
    rrr.Andn ∷ rrr.Bclr ∷ rrr.Bext ∷ rrr.Binv ∷ rrr.Bset ∷ rrr.Max ∷ rrr.Maxu ∷ rrr.Min ∷ rrr.Minu ∷ rrr.Orn ∷
    rrr.Rol ∷ rrr.Rolw ∷ rrr.Ror ∷ rrr.Rorw ∷ rrr.Sh1add ∷ rrr.Sh1adduw ∷ rrr.Sh2add ∷ rrr.Sh2adduw ∷ rrr.Sh3add ∷
    rrr.Sh3adduw ∷ rrr.Xnor ∷ rrr.CzeroEqz ∷ rrr.CzeroNez ∷ rrr.Clmul ∷ rrr.Clmulh ∷ rrr.Clmulr ∷ rrr.Pack ∷ rrr.Packw ∷ rrr.Packh ∷ []

-- the operation of two registers that has this name
unfoldable pub alu_rrr : List ℕ → Option AluOPRRR
alu_rrr w = find (λ op. bytes_eq w (rrr_name op)) every_rrr

unfoldable pub every_rri : List AluOPRRI
every_rri =
    rri.Addi ∷ rri.Slti ∷ rri.SltiU ∷ rri.Xori ∷ rri.Ori ∷ rri.Andi ∷ rri.Slli ∷ rri.Srli ∷ rri.Srai ∷ rri.Addiw ∷
    rri.Slliw ∷ rri.SrliW ∷ rri.Sraiw ∷ rri.Bclri ∷ rri.Bexti ∷ rri.Binvi ∷ rri.Bseti ∷ rri.Rori ∷ rri.Roriw ∷
    rri.SlliUw ∷ rri.Clz ∷ rri.Clzw ∷ rri.Cpop ∷ rri.Cpopw ∷ rri.Ctz ∷ rri.Ctzw ∷ rri.Rev8 ∷ rri.Sextb ∷ rri.Sexth ∷
    rri.Zexth ∷ rri.Orcb ∷ rri.Brev8 ∷ []

-- the operation of a register and an immediate that has this name
unfoldable pub alu_rri : List ℕ → Option AluOPRRI
alu_rri w = find (λ op. bytes_eq w (rri_name op)) every_rri

unfoldable pub every_load : List LoadOP
every_load = Lb ∷ Lh ∷ Lw ∷ Lbu ∷ Lhu ∷ Lwu ∷ Ld ∷ Flh ∷ Flw ∷ Fld ∷ []

-- the load of this mnemonic
unfoldable pub load_op : List ℕ → Option LoadOP
load_op w = find (λ op. bytes_eq w (load_name op)) every_load

unfoldable pub every_store : List StoreOP
every_store = Sb ∷ Sh ∷ Sw ∷ Sd ∷ Fsh ∷ Fsw ∷ Fsd ∷ []

-- the store of this mnemonic
unfoldable pub store_op : List ℕ → Option StoreOP
store_op w = find (λ op. bytes_eq w (store_name op)) every_store
