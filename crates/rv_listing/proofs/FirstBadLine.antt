-- The number that reading returns is that of the first bad line.
use Rattle.std.proofs.Common.{◌≡◌, ℕ, ◌+◌, List, [], ◌∷◌, ◌++◌, length, Option, Some, None, Result, Ok, Err, refl, ap, ◌∙◌, arith}
use Rattle.std.specs.Prelude.{IfErr}
use Rattle.rv_inst.specs.declared.job.Job.{Job}
use Rattle.rv_listing.specs.declared.reading.Draft.{Draft}
use Rattle.rv_listing.specs.declared.reading.ReadError.{ReadError}
use Rattle.rv_listing.specs.declared.reading.ReadError.TheVariants as errors
use Rattle.rv_listing.specs.Tokens.{lines_of}
use Rattle.rv_listing.specs.Reading.{or_line, with_line, reading, job_of, no_draft, Reads, IsBadLine}

record Bad (first : ℕ) (draft : Draft) (lines : List (List ℕ)) (n : ℕ) : Type 0 where
  pub before : List (List ℕ)
  pub line : List ℕ
  pub after : List (List ℕ)
  pub sofar : Draft
  pub cut : lines ≡ before ++ line ∷ after
  pub count : n ≡ length before + first
  pub fine : reading first draft before ≡ Ok sofar
  pub refused : with_line sofar line ≡ None

bad_here : (first : ℕ) (draft : Draft) (l : List ℕ) (ls : List (List ℕ)) (n : ℕ) (taken : Option Draft) → with_line draft l ≡ taken
    → (later : (next : Draft) → reading (first + 1) next ls ≡ Err n → Bad (first + 1) next ls n)
    → or_line first taken (λ next. reading (first + 1) next ls) ≡ Err n → Bad first draft (l ∷ ls) n
bad_here first draft l ls n None taken later e =
    record { before = []; line = l; after = ls; sofar = draft; cut = refl; count = (let same : first ≡ n = cc in omega arith); fine = refl; refused = taken }
bad_here first draft l ls n (Some next) taken later e =
    let b = later next e in
    record {
      before = l ∷ b.before;
      line = b.line;
      after = b.after;
      sofar = b.sofar;
      cut = ap (λ (x : List (List ℕ)). l ∷ x) b.cut;
      count = omega (arith, b.count);
      fine = ap (λ (x : Option Draft). or_line first x (λ t. reading (first + 1) t b.before)) taken ∙ b.fine;
      refused = b.refused;
    }

first_bad : (first : ℕ) (draft : Draft) (lines : List (List ℕ)) (n : ℕ) → reading first draft lines ≡ Err n → Bad first draft lines n
first_bad first draft [] n e = absurd (cc)
first_bad first draft (l ∷ ls) n e = bad_here first draft l ls n (with_line draft l) refl (λ next later. first_bad (first + 1) next ls n later) e

is_bad_line : (text : List ℕ) (n : ℕ) → reading 1 no_draft (lines_of text) ≡ Err n → IsBadLine text n
is_bad_line text n e =
    let b = first_bad 1 no_draft (lines_of text) n e in
    record { before = b.before; line = b.line; after = b.after; sofar = b.sofar; cut = b.cut; count = b.count; fine = b.fine; refused = b.refused }

draft_is_bad : (r : Result Draft ℕ) (n : ℕ) → job_of r ≡ Err n → r ≡ Err n
draft_is_bad (Ok draft) n e = absurd (cc)
draft_is_bad (Err m) n e = let same : m ≡ n = cc in ap (λ (k : ℕ). Err k) same

pub bad_line_is : (text : List ℕ) (r : Result Job ReadError) → Reads text r → IfErr r (λ e. (n : ℕ) → e ≡ errors.Syntax n → IsBadLine text n)
bad_line_is text (Ok job) given = tt
bad_line_is text (Err (errors.Syntax m)) given = λ n same. let e : m ≡ n = cc in is_bad_line text n (draft_is_bad _ n (given ∙ ap (λ (k : ℕ). Err k) e))
bad_line_is text (Err errors.OutOfMemory) given = λ n same. absurd (cc)
