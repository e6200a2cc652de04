-- Results of calls on the stack: how many of them are loaded, and whether their call asks for an island.
use Rattle.std.proofs.Common.{◌≡◌, ℕ, Bool, true, false, List, [], ◌∷◌, ◌++◌, Option, None, Some, refl, ap, sym, ◌∙◌}
use Rattle.std.specs.Prelude.{is_some, not, ◌&&◌, ◌||◌}
use Rattle.std.specs.List.{list_any}
use Rattle.rv_base.specs.declared.call.CallInfo.{CallInfo}
use Rattle.rv_base.specs.declared.call.CallRetPair.{CallRetPair}
use Rattle.rv_base.specs.declared.call.RetLocation.TheVariants.{Reg as InReg, Stack as OnStack}
use Rattle.rv_base.specs.declared.external_name.ExternalName.{ExternalName}
use Rattle.rv_base.specs.declared.regs.Reg.{Reg}
use Rattle.rv_base.specs.Regs.{number_of}
use Rattle.rv_ops.specs.declared.memory.LoadOP.{LoadOP}
use Rattle.rv_inst.specs.Context.{Context}
use Rattle.rv_inst.specs.declared.inst.Inst.{Inst}
use Rattle.rv_inst.specs.declared.inst.Inst.TheVariants.{Call, CallInd}
use Rattle.rv_inst.specs.Returns.{StackLoad, location_loads, loads_unless, result_load, result_loads, typed_loads}
use Rattle.rv_inst.specs.Rules.{is_loaded, is_loaded_from}
use Rattle.rv_inst.specs.Sizes.{call_request, extra_in, request_of}
use Rattle.rv_base.specs.declared.call.RetLocation.{RetLocation}

-- whether there is something to load
abbrev some_load : List StackLoad → Bool
some_load [] = false
some_load (l ∷ loads) = true

typed_some : (register offset : ℕ) (op : Option LoadOP) (loads : List StackLoad) (others : Bool) → some_load loads ≡ others → some_load (typed_loads register offset op ++ loads) ≡ (is_some op || others)
typed_some register offset None loads others rest = rest
typed_some register offset (Some op) loads others rest = refl

any_loaded : (defs : List CallRetPair) → some_load (result_loads defs) ≡ list_any is_loaded defs
any_loaded [] = refl
any_loaded (d ∷ defs) = by d.vreg.reg d.location (any_loaded defs)
  where
    by : (r : Reg) (location : RetLocation) → some_load (result_loads defs) ≡ list_any is_loaded defs → some_load (location_loads r location ++ result_loads defs) ≡ (is_loaded_from location || list_any is_loaded defs)
    by r (InReg s) rest = rest
    by r (OnStack offset type) rest = typed_some (number_of r) offset (result_load type) (result_loads defs) (list_any is_loaded defs) rest

asks : (own : ℕ) (loads : List StackLoad) → is_some (call_request own loads) ≡ some_load loads
asks own [] = refl
asks own (l ∷ loads) = refl

-- a call that loads a result asks for an island
pub asks_to_load : (own : ℕ) (defs : List CallRetPair) → is_some (call_request own (result_loads defs)) ≡ list_any is_loaded defs
asks_to_load own defs = asks own (result_loads defs) ∙ any_loaded defs

-- so does one of a symbol, unless it may be patched
pub asks_unless : (own : ℕ) (patchable : Bool) (defs : List CallRetPair) → is_some (call_request own (loads_unless patchable defs)) ≡ (not patchable && list_any is_loaded defs)
asks_unless own true defs = refl
asks_unless own false defs = asks_to_load own defs

-- as the code asks it
pub call_asks : (context : Context) (inst : Inst) (info : CallInfo ExternalName) (defs : List CallRetPair) → inst ≡ Call info → defs ≡ info.defs → info.patchable ≡ false → list_any is_loaded defs ≡ is_some (request_of context inst)
call_asks context inst info defs is all fixed =
    ap (list_any is_loaded) all ∙ ap (λ p. not p && list_any is_loaded info.defs) (sym fixed) ∙ sym (asks_unless 8 info.patchable info.defs) ∙ ap (λ i. is_some (request_of context i)) (sym is)

pub call_ind_asks : (context : Context) (inst : Inst) (info : CallInfo Reg) (defs : List CallRetPair) → inst ≡ CallInd info → defs ≡ info.defs → list_any is_loaded defs ≡ is_some (request_of context inst)
call_ind_asks context inst info defs is all = ap (list_any is_loaded) all ∙ sym (asks_to_load 4 info.defs) ∙ ap (λ i. is_some (request_of context i)) (sym is)

-- what its results count for is no part of what it asks
pub no_extra : (own : ℕ) (loads : List StackLoad) → extra_in (call_request own loads) ≡ 0
no_extra own [] = refl
no_extra own (l ∷ loads) = refl
