-- Each operation and each comparison is read by its name.
use Rattle.std.proofs.Common.{◌≡◌, ℕ, Bool, true, false, cond, List, [], ◌∷◌, Option, None, Some, refl, sym, ap, ◌∙◌}
use Rattle.std.specs.List.{find}
use Rattle.std.specs.Str.{bytes_eq}
use Rattle.std.proofs.lemmas.Slice.Eq.{bytes_eq-Decides}
use Rattle.rv_base.specs.declared.condcodes.IntCC.{IntCC}
use Rattle.rv_base.specs.declared.condcodes.IntCC.TheVariants as comparison
use Rattle.rv_base.specs.CondCodes.{name_of}
use Rattle.rv_ops.specs.declared.alu.AluOPRRR.{AluOPRRR}
use Rattle.rv_ops.specs.declared.alu.AluOPRRR.TheVariants as rrr
use Rattle.rv_ops.specs.declared.alu.AluOPRRI.{AluOPRRI}
use Rattle.rv_ops.specs.declared.alu.AluOPRRI.TheVariants as rri
use Rattle.rv_ops.specs.declared.memory.LoadOP.{LoadOP}
use Rattle.rv_ops.specs.declared.memory.LoadOP.TheVariants as load
use Rattle.rv_ops.specs.declared.memory.StoreOP.{StoreOP}
use Rattle.rv_ops.specs.declared.memory.StoreOP.TheVariants as store
use Rattle.rv_ops.specs.declared.float_fields.FpuOPWidth.{FpuOPWidth}
use Rattle.rv_ops.specs.declared.float_fields.FpuOPWidth.TheVariants as width
use Rattle.rv_ops.specs.declared.float_fields.FRM.{FRM}
use Rattle.rv_ops.specs.declared.float_fields.FRM.TheVariants as frm
use Rattle.rv_ops.specs.declared.fpu.FpuOPRRR.{FpuOPRRR}
use Rattle.rv_ops.specs.declared.fpu.FpuOPRRR.TheVariants as fpu_rrr_op
use Rattle.rv_ops.specs.Alu.{rrr_name, rri_name}
use Rattle.rv_ops.specs.FloatFields.{width_name, frm_name}
use Rattle.rv_ops.specs.Fpu.{fpu_rrr_listed}
use Rattle.rv_ops.specs.Memory.{load_name, store_name}
use Rattle.rv_listing.specs.Comparisons.{every, cond_code}
use Rattle.rv_listing.specs.declared.comparisons.TheConstants.{SLOTS, FACTOR}
use Rattle.rv_listing.specs.declared.operations.TheConstants.{RRR_SLOTS, RRR_FACTOR, RRI_SLOTS, RRI_FACTOR, LOAD_SLOTS, LOAD_FACTOR, STORE_SLOTS, STORE_FACTOR}
use Rattle.rv_listing.specs.declared.floats.TheConstants.{FPU_RRR_SLOTS, FPU_RRR_FACTOR, WIDTH_SLOTS, WIDTH_FACTOR, FRM_SLOTS, FRM_FACTOR}
use Rattle.rv_listing.specs.Floats.{every_fpu_rrr, fpu_rrr, every_width, fpu_width, every_frm, rounding_mode}
use Rattle.rv_listing.specs.Slots.{candidate, slot, key, checked}
use Rattle.rv_listing.specs.declared.form_names.TheConstants.{FORM_SLOTS, FORM_FACTOR}
use Rattle.rv_listing.specs.declared.form_names.Form.{Form}
use Rattle.rv_listing.specs.declared.form_names.Form.TheVariants as forms
use Rattle.rv_listing.specs.declared.form_names.LoopForm.TheVariants as loops
use Rattle.rv_listing.specs.declared.form_names.FloatForm.TheVariants as floats
use Rattle.rv_listing.specs.declared.form_names.AtomicForm.TheVariants as atomics
use Rattle.rv_listing.specs.Forms.{form_of, form_name, every_form, form_named}
use Rattle.rv_listing.specs.Operations.{every_rrr, alu_rrr, every_rri, alu_rri, every_load, load_op, every_store, store_op}

find_passes : {A : Type 0} (p : A → Bool) (xs : List A) (a : A) → find p xs ≡ Some a → p a ≡ true
find_passes p [] a e = absurd (cc)
find_passes {A} p (x ∷ xs) a e = on (p x) refl (find_passes p xs a) e
  where
    on : (t : Bool) → p x ≡ t → (find p xs ≡ Some a → p a ≡ true) → cond t (Some x) (find p xs) ≡ Some a → p a ≡ true
    on true passes later found = let same : x ≡ a = cc in ap p (sym same) ∙ passes
    on false fails later found = later found

-- Where each name's slot holds what it names, a word is found by its slot.
pub by_slot : {A : Type 0} (name : A → List ℕ) (every : List A) (at : List ℕ → Option A)
    → ((a : A) → find (λ b. bytes_eq (name a) (name b)) every ≡ Some a) → ((a : A) → at (name a) ≡ Some a)
    → (w : List ℕ) → checked name w (at w) ≡ find (λ b. bytes_eq w (name b)) every
unfolding checked
by_slot {A} name every at found hit w = step (find (λ b. bytes_eq w (name b)) every) refl
  where
    same_name : (a : A) → bytes_eq w (name a) ≡ true → w ≡ name a
    same_name a e = (bytes_eq-Decides w (name a)).0 e

    none : (r : Option A) → find (λ b. bytes_eq w (name b)) every ≡ None → checked name w r ≡ None
    none None e = refl
    none (Some a) e = on (bytes_eq w (name a)) refl
      where
        on : (t : Bool) → bytes_eq w (name a) ≡ t → cond t (Some a) None ≡ None
        on false differs = refl
        on true same =
            let it : find (λ b. bytes_eq w (name b)) every ≡ Some a = ap (λ v. find (λ b. bytes_eq v (name b)) every) (same_name a same) ∙ found a in
            absurd (cc)

    step : (r : Option A) → find (λ b. bytes_eq w (name b)) every ≡ r → checked name w (at w) ≡ r
    step None e = none (at w) e
    step (Some a) e =
        let passes : bytes_eq w (name a) ≡ true = find_passes (λ b. bytes_eq w (name b)) every a e in
        let here : at w ≡ Some a = ap at (same_name a passes) ∙ hit a in
        ap (checked name w) here ∙ ap (λ t. cond t (Some a) None) passes

-- ---- each table

pub rrr_found : (op : AluOPRRR) → alu_rrr (rrr_name op) ≡ Some op
unfolding alu_rrr every_rrr
rrr_found rrr.Add = refl
rrr_found _ = refl

pub rri_found : (op : AluOPRRI) → alu_rri (rri_name op) ≡ Some op
unfolding alu_rri every_rri
rri_found rri.Addi = refl
rri_found _ = refl

pub load_found : (op : LoadOP) → load_op (load_name op) ≡ Some op
unfolding load_op every_load
load_found load.Lb = refl
load_found _ = refl

pub store_found : (op : StoreOP) → store_op (store_name op) ≡ Some op
unfolding store_op every_store
store_found store.Sb = refl
store_found _ = refl

pub cc_found : (c : IntCC) → cond_code (name_of c) ≡ Some c
unfolding cond_code every
cc_found comparison.Equal = refl
cc_found _ = refl

-- each name's slot holds what it names
rrr_hit : (op : AluOPRRR) → candidate every_rrr RRR_SLOTS RRR_FACTOR (rrr_name op) ≡ Some op
unfolding every_rrr candidate slot key
rrr_hit rrr.Add = refl
rrr_hit _ = refl

rri_hit : (op : AluOPRRI) → candidate every_rri RRI_SLOTS RRI_FACTOR (rri_name op) ≡ Some op
unfolding every_rri candidate slot key
rri_hit rri.Addi = refl
rri_hit _ = refl

load_hit : (op : LoadOP) → candidate every_load LOAD_SLOTS LOAD_FACTOR (load_name op) ≡ Some op
unfolding every_load candidate slot key
load_hit load.Lb = refl
load_hit _ = refl

store_hit : (op : StoreOP) → candidate every_store STORE_SLOTS STORE_FACTOR (store_name op) ≡ Some op
unfolding every_store candidate slot key
store_hit store.Sb = refl
store_hit _ = refl

cc_hit : (c : IntCC) → candidate every SLOTS FACTOR (name_of c) ≡ Some c
unfolding every candidate slot key
cc_hit comparison.Equal = refl
cc_hit _ = refl

pub rrr_by_slot : (w : List ℕ) → checked rrr_name w (candidate every_rrr RRR_SLOTS RRR_FACTOR w) ≡ alu_rrr w
unfolding alu_rrr
rrr_by_slot = by_slot rrr_name every_rrr (candidate every_rrr RRR_SLOTS RRR_FACTOR) rrr_found rrr_hit

pub rri_by_slot : (w : List ℕ) → checked rri_name w (candidate every_rri RRI_SLOTS RRI_FACTOR w) ≡ alu_rri w
unfolding alu_rri
rri_by_slot = by_slot rri_name every_rri (candidate every_rri RRI_SLOTS RRI_FACTOR) rri_found rri_hit

pub load_by_slot : (w : List ℕ) → checked load_name w (candidate every_load LOAD_SLOTS LOAD_FACTOR w) ≡ load_op w
unfolding load_op
load_by_slot = by_slot load_name every_load (candidate every_load LOAD_SLOTS LOAD_FACTOR) load_found load_hit

pub store_by_slot : (w : List ℕ) → checked store_name w (candidate every_store STORE_SLOTS STORE_FACTOR w) ≡ store_op w
unfolding store_op
store_by_slot = by_slot store_name every_store (candidate every_store STORE_SLOTS STORE_FACTOR) store_found store_hit

pub cc_by_slot : (w : List ℕ) → checked name_of w (candidate every SLOTS FACTOR w) ≡ cond_code w
unfolding cond_code
cc_by_slot = by_slot name_of every (candidate every SLOTS FACTOR) cc_found cc_hit

form_found : (form : Form) → form_named (form_name form) ≡ Some form
unfolding form_named every_form form_of
form_found forms.Nop0 = refl
form_found (forms.Loop loops.StackProbeLoop) = refl
form_found (forms.Float floats.Fli) = refl
form_found (forms.Atomic atomics.Fence) = refl
form_found _ = refl

form_hit : (form : Form) → candidate every_form FORM_SLOTS FORM_FACTOR (form_name form) ≡ Some form
unfolding every_form form_of candidate slot key
form_hit forms.Nop0 = refl
form_hit (forms.Loop loops.StackProbeLoop) = refl
form_hit (forms.Float floats.Fli) = refl
form_hit (forms.Atomic atomics.Fence) = refl
form_hit _ = refl

pub form_by_slot : (w : List ℕ) → checked form_name w (candidate every_form FORM_SLOTS FORM_FACTOR w) ≡ form_named w
unfolding form_named
form_by_slot = by_slot form_name every_form (candidate every_form FORM_SLOTS FORM_FACTOR) form_found form_hit

pub fpu_rrr_found : (x : FpuOPRRR) → fpu_rrr (fpu_rrr_listed x) ≡ Some x
unfolding fpu_rrr every_fpu_rrr
fpu_rrr_found fpu_rrr_op.Fadd = refl
fpu_rrr_found _ = refl

fpu_rrr_hit : (x : FpuOPRRR) → candidate every_fpu_rrr FPU_RRR_SLOTS FPU_RRR_FACTOR (fpu_rrr_listed x) ≡ Some x
unfolding every_fpu_rrr candidate slot key
fpu_rrr_hit fpu_rrr_op.Fadd = refl
fpu_rrr_hit _ = refl

pub fpu_rrr_by_slot : (w : List ℕ) → checked fpu_rrr_listed w (candidate every_fpu_rrr FPU_RRR_SLOTS FPU_RRR_FACTOR w) ≡ fpu_rrr w
unfolding fpu_rrr
fpu_rrr_by_slot = by_slot fpu_rrr_listed every_fpu_rrr (candidate every_fpu_rrr FPU_RRR_SLOTS FPU_RRR_FACTOR) fpu_rrr_found fpu_rrr_hit

pub width_found : (x : FpuOPWidth) → fpu_width (width_name x) ≡ Some x
unfolding fpu_width every_width
width_found width.H = refl
width_found _ = refl

width_hit : (x : FpuOPWidth) → candidate every_width WIDTH_SLOTS WIDTH_FACTOR (width_name x) ≡ Some x
unfolding every_width candidate slot key
width_hit width.H = refl
width_hit _ = refl

pub width_by_slot : (w : List ℕ) → checked width_name w (candidate every_width WIDTH_SLOTS WIDTH_FACTOR w) ≡ fpu_width w
unfolding fpu_width
width_by_slot = by_slot width_name every_width (candidate every_width WIDTH_SLOTS WIDTH_FACTOR) width_found width_hit

pub frm_found : (x : FRM) → rounding_mode (frm_name x) ≡ Some x
unfolding rounding_mode every_frm
frm_found frm.RNE = refl
frm_found _ = refl

frm_hit : (x : FRM) → candidate every_frm FRM_SLOTS FRM_FACTOR (frm_name x) ≡ Some x
unfolding every_frm candidate slot key
frm_hit frm.RNE = refl
frm_hit _ = refl

pub frm_by_slot : (w : List ℕ) → checked frm_name w (candidate every_frm FRM_SLOTS FRM_FACTOR w) ≡ rounding_mode w
unfolding rounding_mode
frm_by_slot = by_slot frm_name every_frm (candidate every_frm FRM_SLOTS FRM_FACTOR) frm_found frm_hit
