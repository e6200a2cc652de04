-- What bytes and uses that were put at the end leave as it was, with labels of their own or without.
use Rattle.{mach_buffer.specs.Buffer.uses_of, rv_sequences.proofs.Terms.{◌≡◌, ℕ, ◌<◌, ◌≤◌, List, Option, Some, ap, ◌∙◌, arith, slice_get, first_inner, first_constant, LabelUse, label_kinds, Use, place_of, few_allocated, Buffer, AppendsCode, AppendsSequence}}

-- code that allocates no label
pub no_own : (code : List ℕ) (own : List (Use LabelUse)) (old new : Buffer) → AppendsCode code own old new → AppendsSequence 0 code own old new
no_own code own old new p = record {
  bytes = p.bytes;
  uses = p.uses;
  allocated = p.allocated ∙ omega arith;
  unbound = λ k lt. absurd (omega arith);
  unnamed = λ k lt j u h. absurd (omega arith);
  bound = λ k lt. absurd (omega arith);
  places = λ label other. ap (λ (place : ℕ → Option ℕ). place label) p.places;
  labels = p.labels;
  registered = p.registered;
  constants = p.constants;
  sound = p.sound;
}

module _ {count : ℕ} {code : List ℕ} {own : List (Use LabelUse)} {old new : Buffer} (p : AppendsSequence count code own old new) where
  -- a label that a listing may name stands where it stood
  pub low_kept : (label : ℕ) → label < first_inner → place_of new label ≡ place_of old label
  low_kept label low = p.places label (λ k lt e. absurd (omega arith))

  -- and so does one of a constant
  pub high_kept : (label : ℕ) → first_constant ≤ label → place_of new label ≡ place_of old label
  high_kept label high = let few = few_allocated label_kinds new p.sound in let drawn = p.allocated in p.places label (λ k lt e. absurd (omega arith))

  -- one that is bound
  pub bound_kept : (label at : ℕ) → place_of old label ≡ Some at → place_of new label ≡ Some at
  bound_kept label at h = p.places label (λ k lt e. let unbound = p.unbound k lt in absurd (cc)) ∙ h

  -- and one that a use names
  pub named_kept : (j : ℕ) (u : Use LabelUse) → slice_get (uses_of old) j ≡ Some u → place_of new u.label.number ≡ place_of old u.label.number
  named_kept j u h = p.places u.label.number (λ k lt e. p.unnamed k lt j u h e)
