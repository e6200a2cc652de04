-- Environments in which a line means the same, since labels that it names, and all constants, symbols and slots, stand at the same
-- addresses: a link of the proof.
use Rattle.std.specs.Prelude.{◌≡◌, ℕ, List, [], ◌∷◌}
use Rattle.rv_base.specs.declared.label.MachLabel.{MachLabel}
use Rattle.rv_inst.specs.Meaning.{Environment}

-- these labels have the same addresses
abbrev pub SameLabels : List MachLabel → Environment → Environment → Type 0
SameLabels [] e f = Unit {0}
SameLabels (l ∷ labels) e f = (e.label l.number ≡ f.label l.number) × SameLabels labels e f

pub record AgreeOn (labels : List MachLabel) (e f : Environment) : Type 0 where
  pub start : e.start ≡ f.start
  pub after : e.after ≡ f.after
  pub flags : e.flags ≡ f.flags
  pub frame : e.frame ≡ f.frame
  pub labels_same : SameLabels labels e f
  pub constants_same : (k : ℕ) → e.constant k ≡ f.constant k
  pub symbols_same : (n : ℕ) → e.symbol n ≡ f.symbol n
  pub slots_same : (n : ℕ) → e.slot n ≡ f.slot n
