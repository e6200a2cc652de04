-- What it is for a unit's operation to do the same on the machine and on values of the listing: links of the proof.
use Rattle.std.specs.Prelude.{◌≡◌, ℕ, ◌+◌, ◌<◌, true, List, [], ◌∷◌, ◌++◌, length, Some, None}
use Rattle.std.specs.List.{AllByRecursion}
use Rattle.rv_base.specs.declared.regs.RegClass.{RegClass}
use Rattle.rv_base.specs.declared.regs.RegClass.TheVariants.{Int, Float, Vector}
use Rattle.rv_base.specs.Regs.{number_of}
use Rattle.rv_machine.specs.declared.decoding.Decoded.{Decoded}
use Rattle.rv_machine.specs.declared.ops.CsrOp.{CsrOp}
use Rattle.rv_machine.specs.declared.ops.CsrOp.TheVariants.{Csrrw, Csrrs, Csrrc, Csrrwi, Csrrsi, Csrrci}
use Rattle.rv_machine.specs.State.{AreValues, wrap}
use Rattle.rv_inst.specs.declared.units.PlacedReg.{PlacedReg}
use Rattle.rv_inst.specs.Meaning.{AreOutside}
use Rattle.rv_full.specs.declared.answer.Answer.{Answer}
use Rattle.rv_full.specs.declared.shapes.Sources.{Sources}
use Rattle.rv_full.specs.declared.shapes.Sources.TheVariants as sources
use Rattle.rv_full.specs.declared.shapes.Target.{Target}
use Rattle.rv_full.specs.declared.shapes.Target.TheVariants as target
use Rattle.rv_full.specs.declared.shapes.FloatShape.{FloatShape}
use Rattle.rv_full.specs.declared.shapes.FloatShape.TheVariants.{Answered, ToInteger, ToFloat, Sign}
use Rattle.rv_full.specs.Rows.{Kind, Row, Absent, Does, Takes, fits, row_takes}
use Rattle.rv_full.specs.Steps.{Goes, Asks, fiter, row_next}
use Rattle.rv_full.specs.Units.{FullState, FullValues, IsFullState, AreUnits, AnswerFits, full_at, values_of}
use Rattle.rv_code.specs.FullValues.{SameFull, SameFullBut}
use Rattle.rv_code.specs.Sites.{Site, IsPlacedAt}

-- The listing's values and the machine's after an operation that left the machine's setting as it was, and all code that isn't at one of
-- these addresses.
pub record Agree (written : List ℕ) (w x y : FullValues) : Type 0 where
  pub same : SameFull x y
  pub placed : (site : Site) → AreOutside site.base (length site.bytes) written → IsPlacedAt site w.ints.mem → IsPlacedAt site y.ints.mem
  pub setting : y.units.setting ≡ w.units.setting
  pub are_values : AreValues x.ints
  pub is_values : AreValues y.ints
  pub units : AreUnits y.units

-- from the machine's values w, rows that do something, or take the same kind of answer, and agree with each, where they write so with the
-- answers that they take
abbrev pub RowsAgree : (List Answer → List ℕ) → FullValues → Row → Row → Type 0
RowsAgree writes w Absent Absent = ⊥
RowsAgree writes w Absent (Does y) = ⊥
RowsAgree writes w Absent (Takes l g) = ⊥
RowsAgree writes w (Does x) Absent = ⊥
RowsAgree writes w (Does x) (Does y) = Agree (writes []) w x y
RowsAgree writes w (Does x) (Takes l g) = ⊥
RowsAgree writes w (Takes k f) Absent = ⊥
RowsAgree writes w (Takes k f) (Does y) = ⊥
RowsAgree writes w (Takes k f) (Takes l g) = (k ≡ l) × ((a : Answer) → fits k a ≡ true → AnswerFits a → Agree (writes (a ∷ [])) w (f a) (g a))

-- an integer register that is read, or written, is below x30
abbrev pub IsUsableSource : Sources → Decoded → Type 0
IsUsableSource sources.Constant d = Unit {0}
IsUsableSource sources.Integer d = d.rs1 < 30
IsUsableSource sources.One d = Unit {0}
IsUsableSource sources.Two d = Unit {0}
IsUsableSource sources.Three d = Unit {0}

abbrev pub IsUsableTarget : Target → Decoded → Type 0
IsUsableTarget target.Integer d = d.rd < 30
IsUsableTarget target.Float d = d.rd < 32

-- of each shape: one that takes an answer, a move between the two files, or a sign's
abbrev pub IsUsableShape : FloatShape → Decoded → Type 0
IsUsableShape (Answered from to) d = IsUsableSource from d × IsUsableTarget to d
IsUsableShape ToInteger d = d.rd < 30
IsUsableShape ToFloat d = (d.rs1 < 30) × (d.rd < 32)
IsUsableShape Sign d = d.rd < 32

-- a register of a class, by its number: an integer register is below x30
abbrev pub IsUsableIn : RegClass → ℕ → Type 0
IsUsableIn Int n = n < 30
IsUsableIn Float n = n < 32
IsUsableIn Vector n = n < 32

-- the registers of an instruction, in their places
abbrev pub AreUsableIn : List PlacedReg → Type 0
AreUsableIn [] = Unit {0}
AreUsableIn (p ∷ places) = IsUsableIn p.class (number_of p.reg) × AreUsableIn places

-- an operation on a control register writes an integer register, and reads one or takes an immediate
abbrev pub IsUsableCsr : CsrOp → Decoded → Type 0
IsUsableCsr Csrrw d = (d.rd < 30) × (d.rs1 < 30)
IsUsableCsr Csrrs d = (d.rd < 30) × (d.rs1 < 30)
IsUsableCsr Csrrc d = (d.rd < 30) × (d.rs1 < 30)
IsUsableCsr Csrrwi d = (d.rd < 30) × Unit {0}
IsUsableCsr Csrrsi d = (d.rd < 30) × Unit {0}
IsUsableCsr Csrrci d = (d.rd < 30) × Unit {0}

-- With the answers that are left the machine goes on to an address, with values that agree with those that the listing's row gives with the
-- answers that were taken.
pub record RowGoes (writes : List Answer → List ℕ) (pc : ℕ) (w : FullValues) (x y : Row) (answers : List Answer) : Type 0 where
  pub took : List Answer
  pub left : List Answer
  pub made : FullValues
  pub after : FullValues
  pub parted : answers ≡ took ++ left
  pub takes : row_takes x took ≡ Some (made, [])
  pub next : row_next pc y answers ≡ Goes (full_at pc after left)
  pub agree : Agree (writes took) w made after
  pub fit : AllByRecursion AnswerFits left

-- Or it asks for an answer, since the listing's row takes one, and those that are left don't begin with one of its kind.
pub record RowAsks (pc : ℕ) (x y : Row) (answers : List Answer) : Type 0 where
  pub kind : Kind
  pub gives : Answer → FullValues
  pub takes : x ≡ Takes kind gives
  pub lacks : row_takes x answers ≡ None
  pub asks : row_next pc y answers ≡ Asks

-- In some steps the machine with all units comes to the end of an instruction's parts, with values that are these, declared temporaries
-- apart. It took these answers, and left the setting and the code.
pub record FullComesOut (site : Site) (after : ℕ) (free : List ℕ) (made : FullValues) (took : List Answer) (b : FullState) : Type 0 where
  pub steps : ℕ
  pub state : FullState
  pub ran : fiter site.context.flags steps b ≡ Some state
  pub pc : state.state.pc ≡ wrap (site.base + after)
  pub same : SameFullBut free made (values_of state)
  pub are_values : AreValues made.ints
  pub is_state : IsFullState state
  pub answers : b.answers ≡ took ++ state.answers
  pub setting : state.units.setting ≡ b.units.setting
  pub placed : IsPlacedAt site state.state.values.mem
