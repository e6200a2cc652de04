-- A machine's fields as its flags and state.
use Rattle.std.specs.Prelude.{ℕ, List, Option, drop, replicate, [], None, refl}
use Rattle.std.specs.Coded.{Coded, code_by, coded×, coded_ℕ, coded_list, coded_option}
use Rattle.rv_base.specs.declared.flags.IsaFlags.{IsaFlags}
use Rattle.rv_machine.specs.View.{flags_code, state_code}
use Rattle.rv_machine.specs.State.{State}
use Rattle.rv_machine.specs.Steps.{Machine as IntegerMachine, zero_at}
use Rattle.rv_full.specs.declared.answer.Answer.{Answer}
use Rattle.rv_full.specs.declared.answer.Entry.{Entry}
use Rattle.rv_full.specs.declared.units.Setting.{Setting}
use Rattle.rv_full.specs.declared.units.Reservation.{Reservation}
use Rattle.rv_full.specs.Units.{Units, FullState}
use Rattle.rv_full.specs.Steps.{Machine}

abbrev pub units_code : Coded Reservation → Coded Setting → Coded Entry → Coded Units
units_code reservation setting entry =
    code_by (List ℕ × (List ℕ × (ℕ × (Option Reservation × (Setting × List Entry)))))
    (coded× (coded_list coded_ℕ) (coded× (coded_list coded_ℕ) (coded× coded_ℕ (coded× (coded_option reservation) (coded× setting (coded_list entry))))))
    (λ u. (u.floats, (u.vectors, (u.frm, (u.reserved, (u.setting, u.trace))))))
    (λ p. record { floats = p.0; vectors = p.1.0; frm = p.1.1.0; reserved = p.1.1.1.0; setting = p.1.1.1.1.0; trace = p.1.1.1.1.1 })
    (λ _. refl)

abbrev pub full_code : Coded Reservation → Coded Setting → Coded Entry → Coded Answer → Coded FullState
full_code reservation setting entry answer =
    code_by (State × (Units × List Answer))
    (coded× state_code (coded× (units_code reservation setting entry) (coded_list answer)))
    (λ b. (b.state, (b.units, b.answers)))
    (λ p. record { state = p.0; units = p.1.0; answers = p.1.1 })
    (λ _. refl)

abbrev pub machine_code : Coded Reservation → Coded Setting → Coded Entry → Coded Answer → Coded Machine
machine_code reservation setting entry answer =
    code_by (IsaFlags × FullState) (coded× flags_code (full_code reservation setting entry answer)) (λ m. (m.flags, m.full)) (λ p. record { flags = p.0; full = p.1 }) (λ _. refl)

-- the answers from some place on are left
abbrev pub machine_of : IntegerMachine → Units → List Answer → ℕ → Machine
machine_of integers units answers taken =
    record { flags = integers.flags; full = record { state = integers.state; units = units; answers = drop taken answers } }

abbrev pub units_of : List ℕ → List ℕ → ℕ → Option Reservation → Setting → List Entry → Units
units_of floats vectors frm reserved setting trace =
    record { floats = floats; vectors = vectors; frm = frm; reserved = reserved; setting = setting; trace = trace }

-- all registers 0, frm and the setting 0, no reservation and no entry
abbrev pub zero_units : Units
zero_units = units_of (replicate 32 0) (replicate 32 0) 0 None (record { avl = 0; vtype = 0 }) []

abbrev pub zero_full : ℕ → FullState
zero_full pc = record { state = zero_at pc; units = zero_units; answers = [] }
