-- What words give, they give once: readings of the same words have the same settings, and say the same of a bad word.
use Rattle.std.proofs.Common.{◌≡◌, ℕ, ◌+◌, List, [], ◌∷◌, ◌++◌, Option, Some, None, Result, Ok, Err, refl, sym, ap, ◌∙◌}
use Rattle.std.specs.Prelude.{true, map, option_map, unwrap_or, slice_get, if◌then◌else◌, codes}
use Rattle.std.specs.Str.{bytes_eq}
use Rattle.std.specs.Borrow.{Bor}
use Rattle.std.proofs.lemmas.Option.{same_Some, slice_get-map}
use Rattle.rv_base.specs.declared.external_name.ExternalName.{ExternalName}
use Rattle.rv_listing.specs.FlagsHeader.{flags_form}
use Rattle.rv_listing.specs.Tokens.{◌>>=◌, natural, parts_of}
use Rattle.rv_load.specs.declared.callees.Callee.{Callee}
use Rattle.rv_load.specs.declared.given.Given.{Given}
use Rattle.rv_load.specs.declared.settings.BadWord.{BadWord}
use Rattle.rv_load.specs.declared.settings.BadWord.TheVariants as bad
use Rattle.rv_load.specs.declared.settings.Data.{Data as Bytes}
use Rattle.rv_load.specs.declared.settings.Named.{Named}
use Rattle.rv_load.specs.declared.settings.Named.TheVariants.{Symbol, Slot}
use Rattle.rv_load.specs.declared.settings.RegisterValue.{RegisterValue}
use Rattle.rv_load.specs.declared.settings.Settings.{Settings}
use Rattle.rv_load.specs.declared.settings.Start.TheVariants as start
use Rattle.rv_full.specs.declared.answer.Answer.{Answer}
use Rattle.rv_load.specs.Answers.{answer, setting_pair}
use Rattle.rv_load.specs.Command.{Parses}
use Rattle.rv_load.specs.Words.{or_bad, ◌then◌, number_or, aligned, start_of, flags_of, put_register, registers_from, data_bytes, data_from, put_address, addresses_from, put_callee, callees_from, setting_of, answers_from, host_of, settings_of}
use Rattle.rv_run.specs.Outcomes.{Asked, given_text, listed_text, addresses_of, word_text}

abbrev text : Option (Bor (List ℕ)) → Option (List ℕ)
text given = option_map (λ s. s.now) given

abbrev texts : List (Bor (List ℕ)) → List (List ℕ)
texts given = map (λ s. s.now) given

-- the same texts by each option
pub record Alike (g h : Given) : Type 0 where
  pub hex : g.hex ≡ h.hex
  trace : g.trace ≡ h.trace
  base : text g.base ≡ text h.base
  flags : text g.flags ≡ text h.flags
  from : text g.from ≡ text h.from
  at : text g.at ≡ text h.at
  steps : text g.steps ≡ text h.steps
  memory : texts g.memory ≡ texts h.memory
  registers : texts g.registers ≡ texts h.registers
  symbols : texts g.symbols ≡ texts h.symbols
  slots : texts g.slots ≡ texts h.slots
  callees : texts g.callees ≡ texts h.callees
  setting : text g.setting ≡ text h.setting
  answers : texts g.answers ≡ texts h.answers
  unit : text g.unit ≡ text h.unit

pub alike : (words : List (List ℕ)) (g h : Given) → Parses words (Ok g) → Parses words (Ok h) → Alike g h
alike words g h p q = record {
  hex = p.1.hex ∙ sym q.1.hex;
  trace = p.1.trace ∙ sym q.1.trace;
  base = p.1.base ∙ sym q.1.base;
  flags = p.1.flags ∙ sym q.1.flags;
  from = p.1.from ∙ sym q.1.from;
  at = p.1.at ∙ sym q.1.at;
  steps = p.1.steps ∙ sym q.1.steps;
  memory = p.1.memory ∙ sym q.1.memory;
  registers = p.1.registers ∙ sym q.1.registers;
  symbols = p.1.symbols ∙ sym q.1.symbols;
  slots = p.1.slots ∙ sym q.1.slots;
  callees = p.1.callees ∙ sym q.1.callees;
  setting = p.1.setting ∙ sym q.1.setting;
  answers = p.1.answers ∙ sym q.1.answers;
  unit = p.1.unit ∙ sym q.1.unit;
}

-- ---- settings

number_alike : (default : ℕ) (word : BadWord) (a b : Option (Bor (List ℕ))) → text a ≡ text b → number_or default word a ≡ number_or default word b
number_alike default word None None e = refl
number_alike default word None (Some y) e = absurd (cc)
number_alike default word (Some x) None e = absurd (cc)
number_alike default word (Some x) (Some y) e = ap (λ w. or_bad word (natural w)) (same_Some x.now y.now e)

flags_alike : (a b : Option (Bor (List ℕ))) → text a ≡ text b → flags_of a ≡ flags_of b
flags_alike None None e = refl
flags_alike None (Some y) e = absurd (cc)
flags_alike (Some x) None e = absurd (cc)
flags_alike (Some x) (Some y) e = ap (λ w. or_bad bad.Flags (flags_form (parts_of 44 w))) (same_Some x.now y.now e)

start_alike : (a b c d : Option (Bor (List ℕ))) → text a ≡ text b → text c ≡ text d → start_of a c ≡ start_of b d
start_alike None None None None e f = refl
start_alike None None (Some x) (Some y) e f = ap (λ w. or_bad bad.At (natural w >>= λ n. Some (start.Offset n))) (same_Some x.now y.now f)
start_alike (Some x) (Some y) None None e f = ap (λ w. or_bad bad.From (natural w >>= λ n. Some (start.Line n))) (same_Some x.now y.now e)
start_alike (Some x) (Some y) (Some z) (Some w) e f = refl
start_alike None (Some y) c d e f = absurd (cc)
start_alike (Some x) None c d e f = absurd (cc)
start_alike None None None (Some w) e f = absurd (cc)
start_alike None None (Some z) None e f = absurd (cc)
start_alike (Some x) (Some y) None (Some w) e f = absurd (cc)
start_alike (Some x) (Some y) (Some z) None e f = absurd (cc)

data_alike : (i : ℕ) (old : List Bytes) (xs ys : List (Bor (List ℕ))) → texts xs ≡ texts ys → data_from i old xs ≡ data_from i old ys
data_alike i old [] [] e = refl
data_alike i old [] (y ∷ ys) e = absurd (cc)
data_alike i old (x ∷ xs) [] e = absurd (cc)
data_alike i old (x ∷ xs) (y ∷ ys) e =
    let first : x.now ≡ y.now = cc in
    let rest : texts xs ≡ texts ys = cc in
    λ j. or_bad (bad.Data i) (data_bytes (first j)) then λ new. data_alike (i + 1) (old ++ new ∷ []) xs ys rest j

registers_alike : (i : ℕ) (old : List RegisterValue) (xs ys : List (Bor (List ℕ))) → texts xs ≡ texts ys → registers_from i old xs ≡ registers_from i old ys
registers_alike i old [] [] e = refl
registers_alike i old [] (y ∷ ys) e = absurd (cc)
registers_alike i old (x ∷ xs) [] e = absurd (cc)
registers_alike i old (x ∷ xs) (y ∷ ys) e =
    let first : x.now ≡ y.now = cc in
    let rest : texts xs ≡ texts ys = cc in
    λ j. put_register i old (first j) then λ new. registers_alike (i + 1) new xs ys rest j

addresses_alike : (named : Named) (i : ℕ) (old : List (ExternalName × ℕ)) (xs ys : List (Bor (List ℕ))) → texts xs ≡ texts ys → addresses_from named i old xs ≡ addresses_from named i old ys
addresses_alike named i old [] [] e = refl
addresses_alike named i old [] (y ∷ ys) e = absurd (cc)
addresses_alike named i old (x ∷ xs) [] e = absurd (cc)
addresses_alike named i old (x ∷ xs) (y ∷ ys) e =
    let first : x.now ≡ y.now = cc in
    let rest : texts xs ≡ texts ys = cc in
    λ j. put_address named i old (first j) then λ new. addresses_alike named (i + 1) new xs ys rest j

callees_alike : (symbols : List (ExternalName × ℕ)) (i : ℕ) (old : List Callee) (xs ys : List (Bor (List ℕ))) → texts xs ≡ texts ys → callees_from symbols i old xs ≡ callees_from symbols i old ys
callees_alike symbols i old [] [] e = refl
callees_alike symbols i old [] (y ∷ ys) e = absurd (cc)
callees_alike symbols i old (x ∷ xs) [] e = absurd (cc)
callees_alike symbols i old (x ∷ xs) (y ∷ ys) e =
    let first : x.now ≡ y.now = cc in
    let rest : texts xs ≡ texts ys = cc in
    λ j. put_callee symbols i old (first j) then λ new. callees_alike symbols (i + 1) new xs ys rest j

setting_alike : (a b : Option (Bor (List ℕ))) → text a ≡ text b → setting_of a ≡ setting_of b
setting_alike None None e = refl
setting_alike None (Some y) e = absurd (cc)
setting_alike (Some x) None e = absurd (cc)
setting_alike (Some x) (Some y) e = ap (λ w. or_bad bad.Setting (setting_pair w)) (same_Some x.now y.now e)

host_alike : (a b : Option (Bor (List ℕ))) → text a ≡ text b → host_of a ≡ host_of b
host_alike None None e = refl
host_alike None (Some y) e = absurd (cc)
host_alike (Some x) None e = absurd (cc)
host_alike (Some x) (Some y) e = ap (λ w. if bytes_eq w (codes "host") then Ok true else Err bad.Unit) (same_Some x.now y.now e)

answers_alike : (i : ℕ) (old : List Answer) (xs ys : List (Bor (List ℕ))) → texts xs ≡ texts ys → answers_from i old xs ≡ answers_from i old ys
answers_alike i old [] [] e = refl
answers_alike i old [] (y ∷ ys) e = absurd (cc)
answers_alike i old (x ∷ xs) [] e = absurd (cc)
answers_alike i old (x ∷ xs) (y ∷ ys) e =
    let first : x.now ≡ y.now = cc in
    let rest : texts xs ≡ texts ys = cc in
    λ j. or_bad (bad.Answer i) (answer (first j)) then λ new. answers_alike (i + 1) (old ++ new ∷ []) xs ys rest j

pub settings_alike : (g h : Given) → Alike g h → settings_of g ≡ settings_of h
settings_alike g h a j =
    (number_alike 0x10000 bad.Base g.base h.base a.base j then aligned) then λ base. flags_alike g.flags h.flags a.flags j then λ flags. start_alike g.from h.from g.at h.at a.from a.at j then λ start. number_alike 10000000 bad.Steps g.steps h.steps a.steps j then λ steps.
    data_alike 0 [] g.memory h.memory a.memory j then λ bytes. registers_alike 0 [] g.registers h.registers a.registers j then λ registers.
    addresses_alike Symbol 0 [] g.symbols h.symbols a.symbols j then λ symbols. addresses_alike Slot 0 [] g.slots h.slots a.slots j then λ slots.
    callees_alike symbols 0 [] g.callees h.callees a.callees j then λ callees.
    setting_alike g.setting h.setting a.setting j then λ setting. answers_alike 0 [] g.answers h.answers a.answers j then λ answers. host_alike g.unit h.unit a.unit j then λ host.
    Ok (record {
      base = base;
      flags = flags;
      start = start;
      steps = steps;
      trace = a.trace j;
      registers = registers;
      memory = bytes;
      symbols = symbols;
      slots = slots;
      callees = callees;
      setting = setting;
      answers = answers;
      host = host;
    })

-- a result is one
pub not_both : {X Y : Type 0} (r : Result X Y) (x : X) (y : Y) → r ≡ Ok x → r ≡ Err y → ⊥
not_both r x y a b = absurd (cc)

pub one_Ok : {X Y : Type 0} (r : Result X Y) (x y : X) → r ≡ Ok x → r ≡ Ok y → x ≡ y
one_Ok r x y a b = cc

pub one_Err : {X Y : Type 0} (r : Result X Y) (x y : Y) → r ≡ Err x → r ≡ Err y → x ≡ y
one_Err r x y a b = cc

pub same_settings : (words : List (List ℕ)) (g h : Given) (s t : Settings) → Asked words g s → Asked words h t → s ≡ t
same_settings words g h s t a b = one_Ok (settings_of g) s t a.set (settings_alike g h (alike words g h a.parsed b.parsed) ∙ b.set)

-- ---- what is said of a bad word

given_alike : (a b : Option (Bor (List ℕ))) → text a ≡ text b → given_text a ≡ given_text b
given_alike a b e = ap (λ o. unwrap_or o []) e

entry_alike : (i : ℕ) (xs ys : List (Bor (List ℕ))) → texts xs ≡ texts ys → text (slice_get xs i) ≡ text (slice_get ys i)
entry_alike i xs ys e = sym (slice_get-map (λ s. s.now) xs i) ∙ ap (λ ts. slice_get ts i) e ∙ slice_get-map (λ s. s.now) ys i

listed_alike : (i : ℕ) (xs ys : List (Bor (List ℕ))) → texts xs ≡ texts ys → listed_text xs i ≡ listed_text ys i
listed_alike i xs ys e = given_alike (slice_get xs i) (slice_get ys i) (entry_alike i xs ys e)

addresses_texts : (g h : Given) → Alike g h → (named : Named) → texts (addresses_of g named) ≡ texts (addresses_of h named)
addresses_texts g h a Symbol = a.symbols
addresses_texts g h a Slot = a.slots

pub word_alike : (g h : Given) → Alike g h → (cause : BadWord) → word_text g cause ≡ word_text h cause
word_alike g h a bad.Base = given_alike g.base h.base a.base
word_alike g h a bad.Flags = given_alike g.flags h.flags a.flags
word_alike g h a bad.From = given_alike g.from h.from a.from
word_alike g h a bad.At = given_alike g.at h.at a.at
word_alike g h a bad.Steps = given_alike g.steps h.steps a.steps
word_alike g h a (bad.Data index) = listed_alike index g.memory h.memory a.memory
word_alike g h a (bad.Register index) = listed_alike index g.registers h.registers a.registers
word_alike g h a (bad.Twice index) = listed_alike index g.registers h.registers a.registers
word_alike g h a (bad.Address named index) = listed_alike index (addresses_of g named) (addresses_of h named) (addresses_texts g h a named)
word_alike g h a (bad.AddressTwice named index) = listed_alike index (addresses_of g named) (addresses_of h named) (addresses_texts g h a named)
word_alike g h a (bad.Callee index) = listed_alike index g.callees h.callees a.callees
word_alike g h a (bad.CalleeTwice index) = listed_alike index g.callees h.callees a.callees
word_alike g h a bad.Setting = given_alike g.setting h.setting a.setting
word_alike g h a (bad.Answer index) = listed_alike index g.answers h.answers a.answers
word_alike g h a bad.Unit = given_alike g.unit h.unit a.unit
