-- What the words of a command say of a run.
use Rattle.std.specs.Prelude.{◌≡◌, ℕ, ◌+◌, ◌-◌, ◌%◌, ◌^◌, Bool, true, false, ◌&&◌, List, [], ◌∷◌, ◌++◌, drop, find, Option, Some, None, option_map, Result, Ok, Err, nat_le, ◌==◌, if◌then◌else◌, codes}
use Rattle.std.specs.List.{list_any}
use Rattle.std.specs.Str.{bytes_eq}
use Rattle.std.specs.Borrow.{Bor}
use Rattle.rv_base.specs.Flags.{no_flags}
use Rattle.rv_base.specs.declared.external_name.ExternalName.{ExternalName}
use Rattle.rv_base.specs.declared.flags.IsaFlags.{IsaFlags}
use Rattle.rv_base.specs.declared.regs.RegClass.{RegClass}
use Rattle.rv_base.specs.declared.regs.RegClass.TheVariants.{Int, Float, Vector}
use Rattle.rv_base.specs.declared.regs.PReg.{PReg}
use Rattle.rv_base.specs.declared.regs.Reg.{Reg}
use Rattle.rv_base.specs.declared.regs.Reg.TheVariants.{Real, Virtual}
use Rattle.rv_listing.specs.Tokens.{◌>>=◌, as_pair, parts_of, natural, starts}
use Rattle.rv_listing.specs.FlagsHeader.{flags_form}
use Rattle.rv_listing.specs.Operands.{symbol}
use Rattle.rv_listing.specs.Registers.{register}
use Rattle.rv_listing.specs.HexDigits.{hex_bytes}
use Rattle.rv_full.specs.declared.answer.Answer.{Answer}
use Rattle.rv_full.specs.declared.units.Setting.{Setting}
use Rattle.rv_load.specs.Answers.{answer, setting_pair, vector_register}
use Rattle.rv_load.specs.declared.callees.Callee.{Callee}
use Rattle.rv_load.specs.declared.given.Given.{Given}
use Rattle.rv_load.specs.declared.settings.Settings.{Settings}
use Rattle.rv_load.specs.declared.settings.SettingsError.{SettingsError}
use Rattle.rv_load.specs.declared.settings.SettingsError.TheVariants as errors
use Rattle.rv_load.specs.declared.settings.BadWord.{BadWord}
use Rattle.rv_load.specs.declared.settings.BadWord.TheVariants as bad
use Rattle.rv_load.specs.declared.settings.Named.{Named}
use Rattle.rv_load.specs.declared.settings.Named.TheVariants.{Symbol, Slot}
use Rattle.rv_load.specs.declared.settings.Start.{Start}
use Rattle.rv_load.specs.declared.settings.Start.TheVariants as start
use Rattle.rv_load.specs.declared.settings.RegisterValue.{RegisterValue}
use Rattle.rv_load.specs.declared.settings.Data.{Data as Bytes}

abbrev pub or_bad : {A : Type 0} → BadWord → Option A → Result A BadWord
or_bad word (Some x) = Ok x
or_bad word None = Err word

infixl 10 ◌then◌
abbrev pub ◌then◌ : {A B : Type 0} → Result A BadWord → (A → Result B BadWord) → Result B BadWord
(Ok x) then f = f x
(Err word) then f = Err word

-- ---- numbers

-- a value of 64 bits: a number, or a minus and one up to 2^63
abbrev pub value : List ℕ → Option ℕ
value w = if starts 45 w then (natural (drop 1 w) >>= λ n. if nat_le n (2 ^ 63) then Some ((2 ^ 64 - n) % 2 ^ 64) else None) else natural w

-- the number that an option gives, or what holds without it
abbrev pub number_or : ℕ → BadWord → Option (Bor (List ℕ)) → Result ℕ BadWord
number_or default word None = Ok default
number_or default word (Some w) = or_bad word (natural w.now)

abbrev pub aligned : ℕ → Result ℕ BadWord
aligned n = if n % 4 == 0 then Ok n else Err bad.Base

-- a multiple of 4
abbrev pub base_of : Given → Result ℕ BadWord
base_of g = number_or 0x10000 bad.Base g.base then aligned

abbrev pub steps_of : Given → Result ℕ BadWord
steps_of g = number_or 10000000 bad.Steps g.steps

-- the offset or the line to begin at, not both
abbrev pub start_of : Option (Bor (List ℕ)) → Option (Bor (List ℕ)) → Result Start BadWord
start_of None None = Ok start.Beginning
start_of (Some line) None = or_bad bad.From (natural line.now >>= λ index. Some (start.Line index))
start_of None (Some offset) = or_bad bad.At (natural offset.now >>= λ n. Some (start.Offset n))
start_of (Some line) (Some offset) = Err bad.At

-- ---- flags

-- distinct names, a comma apart
abbrev pub flags_of : Option (Bor (List ℕ)) → Result IsaFlags BadWord
flags_of None = Ok no_flags
flags_of (Some w) = or_bad bad.Flags (flags_form (parts_of 44 w.now))

-- ---- registers

-- x1 to x31, and f0 to f31
abbrev pub of_class : RegClass → PReg → Option PReg
of_class Int p = if p.number == 0 then None else Some p
of_class Float p = Some p
of_class Vector p = None

abbrev pub file_register : Reg → Option PReg
file_register (Real p) = of_class p.class p
file_register (Virtual class index) = None

abbrev pub is_same_file : RegClass → RegClass → Bool
is_same_file Int Int = true
is_same_file Int Float = false
is_same_file Int Vector = false
is_same_file Float Int = false
is_same_file Float Float = true
is_same_file Float Vector = false
is_same_file Vector Int = false
is_same_file Vector Float = false
is_same_file Vector Vector = true

abbrev pub is_same : PReg → PReg → Bool
is_same p q = p.number == q.number && is_same_file p.class q.class

-- the register of a name; s0 is another name of fp
abbrev pub named_register : List ℕ → Option PReg
named_register w = register (if bytes_eq w (codes "s0") then codes "fp" else w) >>= file_register

-- `NAME=VALUE`
abbrev pub register_value : List ℕ → Option RegisterValue
register_value w = as_pair (parts_of 61 w) >>= λ p. named_register p.0 >>= λ r. value p.1 >>= λ v. Some (record { register = r; value = v })

-- one more register, which was not named before
abbrev pub with_register : ℕ → List RegisterValue → RegisterValue → Result (List RegisterValue) BadWord
with_register i old r = if list_any (λ o. is_same o.register r.register) old then Err (bad.Twice i) else Ok (old ++ r ∷ [])

-- the register that the word of number i sets, after those of the words before it
abbrev pub put_register : ℕ → List RegisterValue → List ℕ → Result (List RegisterValue) BadWord
put_register i old w = or_bad (bad.Register i) (register_value w) then with_register i old

-- the words from number i on
abbrev pub registers_from : ℕ → List RegisterValue → List (Bor (List ℕ)) → Result (List RegisterValue) BadWord
registers_from i old [] = Ok old
registers_from i old (w ∷ ws) = put_register i old w.now then λ new. registers_from (i + 1) new ws

-- ---- memory

-- `ADDRESS=HEX`
abbrev pub data_bytes : List ℕ → Option Bytes
data_bytes w = as_pair (parts_of 61 w) >>= λ p. natural p.0 >>= λ a. hex_bytes p.1 >>= λ bs. Some (record { address = a; bytes = bs })

abbrev pub data_from : ℕ → List Bytes → List (Bor (List ℕ)) → Result (List Bytes) BadWord
data_from i old [] = Ok old
data_from i old (w ∷ ws) = or_bad (bad.Data i) (data_bytes w.now) then λ new. data_from (i + 1) (old ++ new ∷ []) ws

-- ---- symbols

-- `userextnameN=ADDRESS`
abbrev pub name_address : List ℕ → Option (ExternalName × ℕ)
name_address w = as_pair (parts_of 61 w) >>= λ p. symbol p.0 >>= λ name. natural p.1 >>= λ a. Some (name, a)

-- one more address of symbols, or of slots, whose name was not given before
abbrev pub with_address : Named → ℕ → List (ExternalName × ℕ) → ExternalName × ℕ → Result (List (ExternalName × ℕ)) BadWord
with_address named i old p = if list_any (λ o. o.0.number == p.0.number) old then Err (bad.AddressTwice named i) else Ok (old ++ p ∷ [])

abbrev pub put_address : Named → ℕ → List (ExternalName × ℕ) → List ℕ → Result (List (ExternalName × ℕ)) BadWord
put_address named i old w = or_bad (bad.Address named i) (name_address w) then with_address named i old

-- the words from number i on
abbrev pub addresses_from : Named → ℕ → List (ExternalName × ℕ) → List (Bor (List ℕ)) → Result (List (ExternalName × ℕ)) BadWord
addresses_from named i old [] = Ok old
addresses_from named i old (w ∷ ws) = put_address named i old w.now then λ new. addresses_from named (i + 1) new ws

-- ---- callees

-- one more register of a callee, which none before it is
abbrev pub with_set : List RegisterValue → RegisterValue → Option (List RegisterValue)
with_set old r = if list_any (λ o. is_same o.register r.register) old then None else Some (old ++ r ∷ [])

abbrev pub put_set : List RegisterValue → List ℕ → Option (List RegisterValue)
put_set old w = register_value w >>= with_set old

-- the registers of words `REGISTER=VALUE`, after others
abbrev pub sets_after : List RegisterValue → List (List ℕ) → Option (List RegisterValue)
sets_after old [] = Some old
sets_after old (w ∷ ws) = put_set old w >>= λ new. sets_after new ws

-- the address of a symbol, where a word gives one
abbrev pub address_of : List (ExternalName × ℕ) → ExternalName → Option ℕ
address_of symbols name = option_map (λ o. o.1) (find (λ o. o.0.number == name.number) symbols)

-- a callee of this name, which stands at the symbol's address
abbrev pub named_callee : List (ExternalName × ℕ) → List ℕ → List RegisterValue → Option Callee
named_callee symbols w registers = symbol w >>= λ name. address_of symbols name >>= λ a. Some (record { name = name; address = a; registers = registers })

-- the name alone, or both parts of the word
abbrev pub callee_by : List (ExternalName × ℕ) → List ℕ → Option (List ℕ × List ℕ) → Option Callee
callee_by symbols w None = named_callee symbols w []
callee_by symbols w (Some p) = sets_after [] (parts_of 44 p.1) >>= λ registers. named_callee symbols p.0 registers

-- `userextnameN`, or `userextnameN:REGISTER=VALUE,..`
abbrev pub callee_of : List (ExternalName × ℕ) → List ℕ → Option Callee
callee_of symbols w = callee_by symbols w (as_pair (parts_of 58 w))

-- one more callee, whose name was not given before
abbrev pub with_callee : ℕ → List Callee → Callee → Result (List Callee) BadWord
with_callee i old c = if list_any (λ o. o.name.number == c.name.number) old then Err (bad.CalleeTwice i) else Ok (old ++ c ∷ [])

abbrev pub put_callee : List (ExternalName × ℕ) → ℕ → List Callee → List ℕ → Result (List Callee) BadWord
put_callee symbols i old w = or_bad (bad.Callee i) (callee_of symbols w) then with_callee i old

-- the words from number i on
abbrev pub callees_from : List (ExternalName × ℕ) → ℕ → List Callee → List (Bor (List ℕ)) → Result (List Callee) BadWord
callees_from symbols i old [] = Ok old
callees_from symbols i old (w ∷ ws) = put_callee symbols i old w.now then λ new. callees_from symbols (i + 1) new ws

-- ---- the setting and the answers

-- the vector setting, 0 and 0 otherwise
abbrev pub setting_of : Option (Bor (List ℕ)) → Result Setting BadWord
setting_of None = Ok (record { avl = 0; vtype = 0 })
setting_of (Some w) = or_bad bad.Setting (setting_pair w.now)

-- one more vector register of an answer, which the word of it gives
abbrev pub with_vector_register : BadWord → List (ℕ × ℕ) → List ℕ → Result (List (ℕ × ℕ)) BadWord
with_vector_register word old w = or_bad word (vector_register w) then λ r. Ok (old ++ r ∷ [])

abbrev pub answers_from : ℕ → List Answer → List (Bor (List ℕ)) → Result (List Answer) BadWord
answers_from i old [] = Ok old
answers_from i old (w ∷ ws) = or_bad (bad.Answer i) (answer w.now) then λ new. answers_from (i + 1) (old ++ new ∷ []) ws

-- ---- the unit

abbrev pub host_of : Option (Bor (List ℕ)) → Result Bool BadWord
host_of None = Ok false
host_of (Some w) = if bytes_eq w.now (codes "host") then Ok true else Err bad.Unit

-- ---- all of them

-- what the words say, or the first bad one in this order
abbrev pub settings_of : Given → Result Settings BadWord
settings_of g =
    base_of g then λ base. flags_of g.flags then λ flags. start_of g.from g.at then λ start. steps_of g then λ steps.
    data_from 0 [] g.memory then λ bytes. registers_from 0 [] g.registers then λ registers.
    addresses_from Symbol 0 [] g.symbols then λ symbols. addresses_from Slot 0 [] g.slots then λ slots.
    callees_from symbols 0 [] g.callees then λ callees.
    setting_of g.setting then λ setting. answers_from 0 [] g.answers then λ answers. host_of g.unit then λ host.
    Ok (record {
      base = base;
      flags = flags;
      start = start;
      steps = steps;
      trace = g.trace;
      registers = registers;
      memory = bytes;
      symbols = symbols;
      slots = slots;
      callees = callees;
      setting = setting;
      answers = answers;
      host = host;
    })

-- what a reader of words returned; being out of memory says nothing
abbrev pub Reads : {A : Type 0} → Result A BadWord → Result A SettingsError → Type 0
Reads made (Ok x) = made ≡ Ok x
Reads made (Err (errors.Bad word)) = made ≡ Err word
Reads made (Err errors.OutOfMemory) = Unit {0}

-- what a change of a value made of it; being out of memory says nothing
abbrev pub Leaves : {A : Type 0} → Result A BadWord → A → Result Unit SettingsError → Type 0
Leaves made new (Ok x) = made ≡ Ok new
Leaves made new (Err (errors.Bad word)) = made ≡ Err word
Leaves made new (Err errors.OutOfMemory) = Unit {0}
