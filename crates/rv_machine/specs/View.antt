-- A machine's fields as its flags and state.
use Rattle.std.specs.Prelude.{ℕ, Bool, List, refl}
use Rattle.std.specs.FinMap as map
use Rattle.std.specs.Coded.{Coded, code_by, coded×, coded_ℕ, coded_bool, coded_list}
use Rattle.rv_base.specs.declared.flags.IsaFlags.{IsaFlags}
use Rattle.rv_machine.specs.State.{State, Values, Memory}
use Rattle.rv_machine.specs.Steps.{Machine}

abbrev pub flags_code : Coded IsaFlags
flags_code =
    code_by (Bool × (Bool × (Bool × (Bool × (Bool × (Bool × Bool))))))
    (coded× coded_bool (coded× coded_bool (coded× coded_bool (coded× coded_bool (coded× coded_bool (coded× coded_bool coded_bool))))))
    (λ f. (f.has_m, (f.has_zba, (f.has_zbb, (f.has_zca, (f.has_zcb, (f.has_zcd, f.has_zfhmin)))))))
    (λ p. record { has_m = p.0; has_zba = p.1.0; has_zbb = p.1.1.0; has_zca = p.1.1.1.0; has_zcb = p.1.1.1.1.0; has_zcd = p.1.1.1.1.1.0; has_zfhmin = p.1.1.1.1.1.1 })
    (λ _. refl)

abbrev pub memory_code : Coded Memory
memory_code = map.code coded_ℕ coded_ℕ

abbrev pub values_code : Coded Values
values_code = code_by (List ℕ × Memory) (coded× (coded_list coded_ℕ) memory_code) (λ v. (v.regs, v.mem)) (λ p. record { regs = p.0; mem = p.1 }) (λ _. refl)

abbrev pub state_code : Coded State
state_code = code_by (ℕ × Values) (coded× coded_ℕ values_code) (λ s. (s.pc, s.values)) (λ p. record { pc = p.0; values = p.1 }) (λ _. refl)

abbrev pub machine_code : Coded Machine
machine_code = code_by (IsaFlags × State) (coded× flags_code state_code) (λ m. (m.flags, m.state)) (λ p. record { flags = p.0; state = p.1 }) (λ _. refl)

abbrev pub machine_of : IsaFlags → ℕ → List ℕ → List (ℕ × ℕ) → Machine
machine_of flags pc regs entries = record { flags = flags; state = record { pc = pc; values = record { regs = regs; mem = map.from_entries entries } } }
