-- The registers of the requests that an instruction makes.
use Rattle.std.specs.Prelude.{List, [], ◌∷◌}
use Rattle.std.specs.List.{flat_map}
use Rattle.rv_base.specs.declared.regs.Reg.{Reg}
use Rattle.rv_base.specs.declared.constraint.Constraint.{Constraint}
use Rattle.rv_base.specs.declared.constraint.Constraint.TheVariants.{RegUse, RegLateUse, RegFixedUse, RegFixedLateUse, RegDef, RegEarlyDef, RegFixedDef, RegReuseDef, AnyDef, RegClobbers}

-- the register that a request is for; none for clobbers, which are a set
abbrev pub register_of : Constraint → List Reg
register_of (RegUse r) = r ∷ []
register_of (RegLateUse r) = r ∷ []
register_of (RegFixedUse r fixed) = r ∷ []
register_of (RegFixedLateUse r fixed) = r ∷ []
register_of (RegDef w) = w.reg ∷ []
register_of (RegEarlyDef w) = w.reg ∷ []
register_of (RegFixedDef w fixed) = w.reg ∷ []
register_of (RegReuseDef w index) = w.reg ∷ []
register_of (AnyDef w) = w.reg ∷ []
register_of (RegClobbers set) = []

-- the registers of requests, in order
abbrev pub registers_of : List Constraint → List Reg
registers_of requests = flat_map register_of requests
