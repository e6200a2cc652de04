-- A line of a relocation, of a trap, of a call site, of a call that may be patched or of a step in the making of the frame opens
-- a text in one way.
use Rattle.std.proofs.Common.{◌≡◌, ℕ, ◌<◌, List, [], ◌∷◌, ◌++◌, get_or, drop, Some, refl, sym, ap, ◌∙◌, append_assoc, lit≤, arith}
use Rattle.std.specs.Prelude.{codes}
use Rattle.std.specs.Fmt.{decimal, signed_decimal}
use Rattle.mach_records.specs.declared.records.FinalizedRelocTarget.{FinalizedRelocTarget}
use Rattle.mach_records.specs.declared.records.FinalizedRelocTarget.TheVariants.{ExternalName, Func}
use Rattle.mach_records.specs.declared.records.MachReloc.{MachReloc}
use Rattle.mach_records.specs.declared.records.MachTrap.{MachTrap}
use Rattle.mach_records.specs.declared.records.MachPatchable.{MachPatchable}
use Rattle.mach_records.specs.declared.records.MachUnwind.{MachUnwind}
use Rattle.rv_base.specs.declared.reloc.Reloc.{Reloc}
use Rattle.rv_base.specs.declared.reloc.Reloc.TheVariants.{RiscvCallPlt, RiscvGotHi20, RiscvPCRelHi20, RiscvPCRelLo12I, Abs8}
use Rattle.rv_base.specs.declared.regs.PReg.{PReg}
use Rattle.rv_base.specs.declared.regs.Reg.TheVariants.{Real, Virtual}
use Rattle.rv_base.specs.declared.regs.RegClass.{RegClass}
use Rattle.rv_base.specs.declared.regs.RegClass.TheVariants.{Int, Float, Vector}
use Rattle.rv_base.specs.declared.trap.TrapCode.{TrapCode}
use Rattle.rv_base.specs.declared.trap.TrapCode.TheVariants.{StackOverflow, HeapOutOfBounds, IntegerOverflow, IntegerDivisionByZero, BadConversionToInteger, User}
use Rattle.rv_base.specs.declared.unwind.UnwindInst.{UnwindInst}
use Rattle.rv_base.specs.declared.unwind.UnwindInst.TheVariants.{PushFrameRegs, DefineNewFrame, StackAlloc, SaveReg}
use Rattle.rv_base.specs.Trap.{name_of}
use Rattle.rv_base.specs.RegNames.{int_names, float_names, real_name}
use Rattle.rv_listing.specs.Registers.{register}
use Rattle.rv_listing.specs.Relocations.{kind_name, kind_named, target_text}
use Rattle.rv_listing.specs.UnwindSteps.{step_text}
use Rattle.rv_listing.specs.Report.{reloc_line, trap_line, call_line, patch_line, unwind_line}
use Rattle.rv_listing.specs.CodeRanges.{RelocFits, TargetFits, TrapFits, CallFits, PatchFits, StepFits, UnwindFits}
use Rattle.rv_listing.proofs.Ranges.{real_is}
use Rattle.rv_listing.proofs.RegisterNames.{names_read}
use Rattle.rv_listing.proofs.TrapNames.{same_trap}
use Rattle.rv_listing.proofs.ReportWords.{Above, checked, each_checked, Above-decimal, cut, number_opens, two_open, signed_opens, regroup_one, regroup_two, far, near}

-- ---- traps

-- the bytes of a cause's name are those of letters, digits and _
Above-trap : (code : TrapCode) → Above 48 (name_of code)
Above-trap StackOverflow = checked 48 (codes "stk_ovf") tt
Above-trap HeapOutOfBounds = checked 48 (codes "heap_oob") tt
Above-trap IntegerOverflow = checked 48 (codes "int_ovf") tt
Above-trap IntegerDivisionByZero = checked 48 (codes "int_divz") tt
Above-trap BadConversionToInteger = checked 48 (codes "bad_toint") tt
Above-trap (User trap) = let high = trap.high in (lit≤ tt, (lit≤ tt, (lit≤ tt, (lit≤ tt, Above-decimal trap.number (omega arith)))))

pub trap_opens : (x y : MachTrap) (a b : List ℕ) → TrapFits x → TrapFits y → trap_line x ++ a ≡ trap_line y ++ b → (x ≡ y) × (a ≡ b)
trap_opens x y a b fx fy e =
    let ex = regroup_two (codes "trap ") (decimal x.offset) (name_of x.code) a in
    let ey = regroup_two (codes "trap ") (decimal y.offset) (name_of y.code) b in
    let all = sym ex ∙ e ∙ ey in
    let numbers : decimal x.offset ++ 32 ∷ (name_of x.code ++ 10 ∷ a) ≡ decimal y.offset ++ 32 ∷ (name_of y.code ++ 10 ∷ b) = ap (drop 5) all in
    let one = number_opens x.offset y.offset _ _ 32 (omega arith) (omega (arith, fx.offset)) (omega (arith, fy.offset)) numbers in
    let names = cut 48 (name_of x.code) (name_of y.code) a b 10 (omega arith) (Above-trap x.code) (Above-trap y.code) one.1 in
    (made x y one.0 (same_trap x.code y.code names.0), names.1)
  where
    made : (x y : MachTrap) → x.offset ≡ y.offset → x.code ≡ y.code → x ≡ y
    made x y p q = λ i. record { offset = p i; code = q i }

-- ---- call sites

pub call_opens : (x y : ℕ) (a b : List ℕ) → CallFits x → CallFits y → call_line x ++ a ≡ call_line y ++ b → (x ≡ y) × (a ≡ b)
call_opens x y a b fx fy e =
    let ex = regroup_one (codes "call ") (decimal x) a in
    let ey = regroup_one (codes "call ") (decimal y) b in
    let numbers : decimal x ++ 10 ∷ a ≡ decimal y ++ 10 ∷ b = ap (drop 5) (sym ex ∙ e ∙ ey) in
    number_opens x y a b 10 (omega arith) (omega (arith, fx)) (omega (arith, fy)) numbers

-- ---- calls that may be patched

pub patch_opens : (x y : MachPatchable) (a b : List ℕ) → PatchFits x → PatchFits y → patch_line x ++ a ≡ patch_line y ++ b → (x ≡ y) × (a ≡ b)
patch_opens x y a b fx fy e =
    let ex = regroup_two (codes "patch ") (decimal x.offset) (decimal x.len) a in
    let ey = regroup_two (codes "patch ") (decimal y.offset) (decimal y.len) b in
    let numbers = two_open x.offset y.offset x.len y.len a b fx.offset fy.offset fx.len fy.len (ap (drop 6) (sym ex ∙ e ∙ ey)) in
    ((λ i. record { offset = numbers.0 i; len = numbers.1.0 i }), numbers.1.1)

-- ---- relocations

pub kind_found : (kind : Reloc) → kind_named (kind_name kind) ≡ Some kind
unfolding kind_named
kind_found RiscvCallPlt = refl
kind_found RiscvGotHi20 = refl
kind_found RiscvPCRelHi20 = refl
kind_found RiscvPCRelLo12I = refl
kind_found Abs8 = refl

same_kind : (x y : Reloc) → kind_name x ≡ kind_name y → x ≡ y
same_kind x y e = some_same (sym (kind_found x) ∙ ap kind_named e ∙ kind_found y)
  where
    some_same : Some x ≡ Some y → x ≡ y
    some_same f = cc

Above-kind : (kind : Reloc) → Above 48 (kind_name kind)
Above-kind RiscvCallPlt = checked 48 (codes "RiscvCallPlt") tt
Above-kind RiscvGotHi20 = checked 48 (codes "RiscvGotHi20") tt
Above-kind RiscvPCRelHi20 = checked 48 (codes "RiscvPCRelHi20") tt
Above-kind RiscvPCRelLo12I = checked 48 (codes "RiscvPCRelLo12I") tt
Above-kind Abs8 = checked 48 (codes "Abs8") tt

target_opens : (x y : FinalizedRelocTarget) (a b : List ℕ) → TargetFits x → TargetFits y → target_text x ++ 32 ∷ a ≡ target_text y ++ 32 ∷ b → (x ≡ y) × (a ≡ b)
target_opens (ExternalName x) (ExternalName y) a b fx fy e =
    let numbers : decimal x.number ++ 32 ∷ a ≡ decimal y.number ++ 32 ∷ b = ap (drop 11) e in
    let one = number_opens x.number y.number a b 32 (omega arith) (omega arith) (omega arith) numbers in
    ((λ i. ExternalName (record { number = one.0 i })), one.1)
target_opens (ExternalName x) (Func m) a b fx fy e = absurd (far 117 64 (ap (λ (w : List ℕ). get_or w 0 0) e) (omega arith))
target_opens (Func m) (ExternalName y) a b fx fy e = absurd (near 64 117 (ap (λ (w : List ℕ). get_or w 0 0) e) (omega arith))
target_opens (Func m) (Func n) a b fx fy e =
    let numbers : decimal m ++ 32 ∷ a ≡ decimal n ++ 32 ∷ b = ap (drop 1) e in
    let one = number_opens m n a b 32 (omega arith) (omega arith) (omega arith) numbers in
    ((λ i. Func (one.0 i)), one.1)

regroup_four : (p i k t z a : List ℕ) → (p ++ i ++ 32 ∷ [] ++ k ++ 32 ∷ [] ++ t ++ 32 ∷ [] ++ z ++ 10 ∷ []) ++ a ≡ p ++ (i ++ 32 ∷ (k ++ 32 ∷ (t ++ 32 ∷ (z ++ 10 ∷ a))))
regroup_four p i k t z a = simp append_assoc

pub reloc_opens : (x y : MachReloc) (a b : List ℕ) → RelocFits x → RelocFits y → reloc_line x ++ a ≡ reloc_line y ++ b → (x ≡ y) × (a ≡ b)
reloc_opens x y a b fx fy e =
    let ex = regroup_four (codes "reloc ") (decimal x.offset) (kind_name x.kind) (target_text x.target) (signed_decimal x.addend) a in
    let ey = regroup_four (codes "reloc ") (decimal y.offset) (kind_name y.kind) (target_text y.target) (signed_decimal y.addend) b in
    let all = sym ex ∙ e ∙ ey in
    let numbers : decimal x.offset ++ 32 ∷ (kind_name x.kind ++ 32 ∷ (target_text x.target ++ 32 ∷ (signed_decimal x.addend ++ 10 ∷ a))) ≡ decimal y.offset ++ 32 ∷ (kind_name y.kind ++ 32 ∷ (target_text y.target ++ 32 ∷ (signed_decimal y.addend ++ 10 ∷ b))) = ap (drop 6) all in
    let one = number_opens x.offset y.offset _ _ 32 (omega arith) (omega (arith, fx.offset)) (omega (arith, fy.offset)) numbers in
    let names = cut 48 (kind_name x.kind) (kind_name y.kind) _ _ 32 (omega arith) (Above-kind x.kind) (Above-kind y.kind) one.1 in
    let targets = target_opens x.target y.target _ _ fx.target fy.target names.1 in
    let last = signed_opens x.addend y.addend a b fx.low fx.high fy.low fy.high targets.1 in
    (made x y one.0 (same_kind x.kind y.kind names.0) targets.0 last.0, last.1)
  where
    made : (x y : MachReloc) → x.offset ≡ y.offset → x.kind ≡ y.kind → x.target ≡ y.target → x.addend ≡ y.addend → x ≡ y
    made x y p q r s = λ i. record { offset = p i; kind = q i; target = r i; addend = s i }

-- ---- steps in the making of the frame

Above-register : (class : RegClass) (n : ℕ) → n < 32 → Above 48 (real_name class n)
Above-register Int n low = each_checked 48 int_names n tt
Above-register Float n low = each_checked 48 float_names n tt
Above-register Vector n low = (lit≤ tt, Above-decimal n (omega arith))

same_register : (p q : PReg) → real_name p.class p.number ≡ real_name q.class q.number → p ≡ q
same_register p q e = some_same (real_is p.class p.number p.in_file ∙ sym (names_read p.class p.number p.in_file) ∙ ap register e ∙ names_read q.class q.number q.in_file ∙ sym (real_is q.class q.number q.in_file))
  where
    some_same : Some (Real p) ≡ Some (Real q) → p ≡ q
    some_same f = cc

regroup_pair : (i s a : List ℕ) → (i ++ 32 ∷ [] ++ s) ++ 10 ∷ a ≡ i ++ 32 ∷ (s ++ 10 ∷ a)
regroup_pair i s a = simp append_assoc

step_opens : (x y : UnwindInst) (a b : List ℕ) → StepFits x → StepFits y → step_text x ++ 10 ∷ a ≡ step_text y ++ 10 ∷ b → (x ≡ y) × (a ≡ b)
step_opens (PushFrameRegs m) (PushFrameRegs n) a b fx fy e =
    let numbers : decimal m ++ 10 ∷ a ≡ decimal n ++ 10 ∷ b = ap (drop 5) e in
    let one = number_opens m n a b 10 (omega arith) (omega arith) (omega arith) numbers in
    ((λ i. PushFrameRegs (one.0 i)), one.1)
step_opens (PushFrameRegs m) (DefineNewFrame n k) a b fx fy e = absurd (far 112 102 (ap (λ (w : List ℕ). get_or w 0 0) e) (omega arith))
step_opens (PushFrameRegs m) (StackAlloc n) a b fx fy e = absurd (far 112 97 (ap (λ (w : List ℕ). get_or w 0 0) e) (omega arith))
step_opens (PushFrameRegs m) (SaveReg n s) a b fx fy e = absurd (near 112 115 (ap (λ (w : List ℕ). get_or w 0 0) e) (omega arith))
step_opens (DefineNewFrame m j) (PushFrameRegs n) a b fx fy e = absurd (near 102 112 (ap (λ (w : List ℕ). get_or w 0 0) e) (omega arith))
step_opens (DefineNewFrame m j) (DefineNewFrame n k) a b fx fy e =
    let numbers : (decimal m ++ 32 ∷ [] ++ decimal j) ++ 10 ∷ a ≡ (decimal n ++ 32 ∷ [] ++ decimal k) ++ 10 ∷ b = ap (drop 6) e in
    let pair = two_open m n j k a b fx.0 fy.0 fx.1 fy.1 (sym (regroup_pair (decimal m) (decimal j) a) ∙ numbers ∙ regroup_pair (decimal n) (decimal k) b) in
    ((λ i. DefineNewFrame (pair.0 i) (pair.1.0 i)), pair.1.1)
step_opens (DefineNewFrame m j) (StackAlloc n) a b fx fy e = absurd (far 102 97 (ap (λ (w : List ℕ). get_or w 0 0) e) (omega arith))
step_opens (DefineNewFrame m j) (SaveReg n s) a b fx fy e = absurd (near 102 115 (ap (λ (w : List ℕ). get_or w 0 0) e) (omega arith))
step_opens (StackAlloc m) (PushFrameRegs n) a b fx fy e = absurd (near 97 112 (ap (λ (w : List ℕ). get_or w 0 0) e) (omega arith))
step_opens (StackAlloc m) (DefineNewFrame n k) a b fx fy e = absurd (near 97 102 (ap (λ (w : List ℕ). get_or w 0 0) e) (omega arith))
step_opens (StackAlloc m) (StackAlloc n) a b fx fy e =
    let numbers : decimal m ++ 10 ∷ a ≡ decimal n ++ 10 ∷ b = ap (drop 6) e in
    let one = number_opens m n a b 10 (omega arith) (omega arith) (omega arith) numbers in
    ((λ i. StackAlloc (one.0 i)), one.1)
step_opens (StackAlloc m) (SaveReg n s) a b fx fy e = absurd (near 97 115 (ap (λ (w : List ℕ). get_or w 0 0) e) (omega arith))
step_opens (SaveReg m r) (PushFrameRegs n) a b fx fy e = absurd (far 115 112 (ap (λ (w : List ℕ). get_or w 0 0) e) (omega arith))
step_opens (SaveReg m r) (DefineNewFrame n k) a b fx fy e = absurd (far 115 102 (ap (λ (w : List ℕ). get_or w 0 0) e) (omega arith))
step_opens (SaveReg m r) (StackAlloc n) a b fx fy e = absurd (far 115 97 (ap (λ (w : List ℕ). get_or w 0 0) e) (omega arith))
step_opens (SaveReg m (Real p)) (SaveReg n (Real q)) a b fx fy e =
    let words : (decimal m ++ 32 ∷ [] ++ real_name p.class p.number) ++ 10 ∷ a ≡ (decimal n ++ 32 ∷ [] ++ real_name q.class q.number) ++ 10 ∷ b = ap (drop 5) e in
    let parts = sym (regroup_pair (decimal m) (real_name p.class p.number) a) ∙ words ∙ regroup_pair (decimal n) (real_name q.class q.number) b in
    let one = number_opens m n _ _ 32 (omega arith) (omega (arith, fx.0)) (omega (arith, fy.0)) parts in
    let names = cut 48 (real_name p.class p.number) (real_name q.class q.number) a b 10 (omega arith) (Above-register p.class p.number p.in_file) (Above-register q.class q.number q.in_file) one.1 in
    let regs = same_register p q names.0 in
    ((λ i. SaveReg (one.0 i) (Real (regs i))), names.1)
step_opens (SaveReg m (Virtual class index)) (SaveReg n s) a b fx fy e = absurd fx.1
step_opens (SaveReg m (Real p)) (SaveReg n (Virtual class index)) a b fx fy e = absurd fy.1

pub unwind_opens : (x y : MachUnwind) (a b : List ℕ) → UnwindFits x → UnwindFits y → unwind_line x ++ a ≡ unwind_line y ++ b → (x ≡ y) × (a ≡ b)
unwind_opens x y a b fx fy e =
    let ex = regroup_two (codes "unwind ") (decimal x.offset) (step_text x.inst) a in
    let ey = regroup_two (codes "unwind ") (decimal y.offset) (step_text y.inst) b in
    let all = sym ex ∙ e ∙ ey in
    let numbers : decimal x.offset ++ 32 ∷ (step_text x.inst ++ 10 ∷ a) ≡ decimal y.offset ++ 32 ∷ (step_text y.inst ++ 10 ∷ b) = ap (drop 7) all in
    let one = number_opens x.offset y.offset _ _ 32 (omega arith) (omega (arith, fx.offset)) (omega (arith, fy.offset)) numbers in
    let steps = step_opens x.inst y.inst a b fx.step fy.step one.1 in
    (made x y one.0 steps.0, steps.1)
  where
    made : (x y : MachUnwind) → x.offset ≡ y.offset → x.inst ≡ y.inst → x ≡ y
    made x y p q = λ i. record { offset = p i; inst = q i }
