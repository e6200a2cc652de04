-- The word that `--gen` has after a parse is a number.
use Rattle.std.proofs.Common.{◌≡◌, ◌∙◌, ◌<◌, ◌⊎◌, inl, inr, ℕ, Bool, true, false, List, [], ◌∷◌, length, map, Option, Some, None, arith, ap, refl, sym, subst, slice_index, codes, ◌&&◌, not, zero, suc}
use Rattle.std.specs.Prelude.{IfSome, option_map, slice_get}
use Rattle.std.specs.Borrow.{Bor}
use Rattle.std.specs.List.{All, slice_index_or}
use Rattle.std.specs.Str.{bytes_eq}
use Rattle.std.proofs.lemmas.List.Elements.{All-get_or}
use Rattle.std.proofs.lemmas.Bool.Decides.{nat_tests}
use Rattle.std.proofs.lemmas.Slice.Eq.{bytes_eq-Decides}
use Rattle.clap.specs.Built.{IsAuto, IsParsedFrom, NamesNoGroup, SameRules}
use Rattle.clap.specs.Facts.{Entry, EntryPasses, PassesArg, ValuesPass, args_of, groups_of, parser_of, parser_of_value}
use Rattle.clap.specs.Matches.{first_value, found_of, matched_of}
use Rattle.clap.specs.Simple.{App, app_of, has_plain_fields}
use Rattle.clap.specs.declared.builder.arg_group.ArgGroup.{ArgGroup}
use Rattle.clap.specs.Walk.{Rule, is_empty, rule_of}
use Rattle.clap.specs.Values.{Accepts, IsUnsignedIn}
use Rattle.clap.specs.declared.builder.arg.Arg.{Arg}
use Rattle.clap.specs.declared.builder.command.Command.{Command}
use Rattle.clap.specs.declared.builder.command.Command.TheViews.{out-Command}
use Rattle.clap.specs.declared.builder.value_parser.ValueParser.{ValueParser}
use Rattle.clap.specs.declared.builder.value_parser.ValueParser.TheVariants as parser
use Rattle.clap.specs.declared.parser.matches.ArgMatches.{ArgMatches}
use Rattle.clap.specs.declared.parser.matches.MatchedArg.{MatchedArg}
use Rattle.clap.proofs.CallerLemmas.{entry_by_id, same_rules_by_id}
use Rattle.rv_command.specs.Words.{last_number, text_rule, gen_rule, rvemit_app}

both : (a b : Bool) → (a && b) ≡ true → (a ≡ true) × (b ≡ true)
both true true is = (refl, refl)
both true false is = absurd (cc)
both false b is = absurd (cc)

none_in : {X : Type 0} (xs : List X) → is_empty xs ≡ true → xs ≡ []
none_in [] is = refl
none_in (x ∷ xs) is = absurd (grind (arith, nat_tests))

-- ---- the command's two arguments

record TwoArgs (old : Command) : Type 0 where
  flag : Arg
  option : Arg
  args : args_of old ≡ flag ∷ option ∷ []
  flag_rule : rule_of flag ≡ text_rule
  option_rule : rule_of option ≡ gen_rule
  groups : groups_of old ≡ []
  globals : (out-Command old).has_globals ≡ false

two_of : (xs : List Arg) → map rule_of xs ≡ text_rule ∷ gen_rule ∷ [] → (a : Arg) × (b : Arg) × (xs ≡ a ∷ b ∷ []) × (rule_of a ≡ text_rule) × (rule_of b ≡ gen_rule)
two_of [] is = absurd (cc)
two_of (a ∷ []) is = absurd (cc)
two_of (a ∷ b ∷ []) is = (a, b, refl, cc, cc)
two_of (a ∷ b ∷ c ∷ xs) is = absurd (cc)

no_groups : (c : Command) → has_plain_fields (out-Command c) ≡ true → groups_of c ≡ []
no_groups c plain = none_in (groups_of c) (both (is_empty (out-Command c).groups.items) _ plain).0

no_globals : (c : Command) → has_plain_fields (out-Command c) ≡ true → (out-Command c).has_globals ≡ false
no_globals c plain =
    let rest = both (is_empty (out-Command c).groups.items) _ plain in
    let more = both (not (out-Command c).allow_external_subcommands) _ rest.1 in
    not_so (out-Command c).has_globals (both (not (out-Command c).has_globals) _ more.1).0
  where
    not_so : (b : Bool) → not b ≡ true → b ≡ false
    not_so true is = absurd (cc)
    not_so false is = refl

two_args : (old : Command) → app_of old ≡ rvemit_app → TwoArgs old
unfolding rvemit_app
two_args old is =
    let rules : map rule_of (args_of old) ≡ text_rule ∷ gen_rule ∷ [] = ap (λ (a : App). a.top.rules) is in
    let plain : has_plain_fields (out-Command old) ≡ true = ap (λ (a : App). a.top.is_plain) is in
    let two = two_of (args_of old) rules in
    record { flag = two.0; option = two.1; args = two.2; flag_rule = two.3; option_rule = two.4; groups = no_groups old plain; globals = no_globals old plain }

-- no argument is in a group
in_no_group : (a : Arg) → (rule_of a).is_simple ≡ true → a.groups.items ≡ []
in_no_group a simple =
    let one = both (is_empty a.overrides.items) _ simple in
    let two = both (is_empty a.default_vals_ifs.items) _ one.1 in
    none_in a.groups.items (both (is_empty a.groups.items) _ two.1).0

names_none : (old : Command) (t : TwoArgs old) → NamesNoGroup old
names_none old t = subst (λ (xs : List Arg). All (λ a. a.groups.items ≡ []) xs) (sym t.args) each
  where
    each : All (λ a. a.groups.items ≡ []) (t.flag ∷ t.option ∷ [])
    each zero d lt = in_no_group t.flag (ap (λ (r : Rule). r.is_simple) t.flag_rule)
    each (suc zero) d lt = in_no_group t.option (ap (λ (r : Rule). r.is_simple) t.option_rule)
    each (suc (suc k)) d lt = absurd (omega (arith, lt))

-- ---- its values

accepted : (a y : Arg) (q : ValueParser) (t : List ℕ) → SameRules a y → a.value_parser ≡ Some q → Accepts y.ignore_case (parser_of y) t → Accepts y.ignore_case q t
accepted a y q t same own passed = subst (λ (w : ValueParser). Accepts y.ignore_case w t) (ap parser_of_value (same.parser q own)) passed

named_gen : (old : Command) (t : TwoArgs old) (d : Arg) → slice_index_or (args_of old) 1 d ≡ t.option
named_gen old t d = ap (λ (xs : List Arg). slice_index_or xs 1 d) t.args

is_gen : (old : Command) (t : TwoArgs old) (d : Arg) → (slice_index_or (args_of old) 1 d).id.now ≡ codes "gen"
is_gen old t d = ap (λ (a : Arg). a.id.now) (named_gen old t d) ∙ ap (λ (r : Rule). r.id) t.option_rule

only_one : (old : Command) (t : TwoArgs old) (d : Arg) (j : ℕ) (e : Arg) → j < length (args_of old) → bytes_eq (slice_index_or (args_of old) j e).id.now (slice_index_or (args_of old) 1 d).id.now ≡ true → j ≡ 1
only_one old t d j e lt same =
    go j (subst (λ (xs : List Arg). j < length xs) t.args lt) (subst (λ (xs : List Arg). (slice_index_or xs j e).id.now ≡ codes "gen") t.args ((bytes_eq-Decides _ _).0 same ∙ is_gen old t d))
  where
    go : (i : ℕ) → i < 2 → (slice_index_or (t.flag ∷ t.option ∷ []) i e).id.now ≡ codes "gen" → i ≡ 1
    go zero low is =
        let flag : t.flag.id.now ≡ codes "text" = ap (λ (r : Rule). r.id) t.flag_rule in
        let first : 116 ≡ 103 = ap (λ (xs : List ℕ). slice_index xs 0) (sym flag ∙ is) in
        absurd (omega (arith, first))
    go (suc zero) low is = refl
    go (suc (suc k)) low is = absurd (omega (arith, low))

not_auto : (old : Command) (t : TwoArgs old) (d : Arg) → IsAuto (slice_index_or (args_of old) 1 d) → ⊥
not_auto old t d (inl help) =
    let first : 103 ≡ 104 = ap (λ (xs : List ℕ). slice_index xs 0) (sym (is_gen old t d) ∙ help) in
    omega (arith, first)
not_auto old t d (inr version) =
    let first : 103 ≡ 118 = ap (λ (xs : List ℕ). slice_index xs 0) (sym (is_gen old t d) ∙ version) in
    omega (arith, first)

value_passes : (old : Command) (m : ArgMatches) (p : IsParsedFrom old m) → TwoArgs old → (v : List ℕ) → PassesArg p.built (codes "gen") v → IsUnsignedIn 0 last_number v
value_passes old m p t v (j, y, lt, at, (is, accepts)) =
    let second : 1 < length (args_of old) = subst (λ (xs : List Arg). 1 < length xs) (sym t.args) (omega arith) in
    let key : bytes_eq y.id.now (slice_index_or (args_of old) 1 t.option).id.now ≡ true =
    subst (λ (u : List ℕ). bytes_eq y.id.now u ≡ true) (sym (is_gen old t t.option)) is in
    let same = same_rules_by_id old m p 1 t.option second (only_one old t t.option) (not_auto old t t.option) j y lt at key in
    let own : (slice_index_or (args_of old) 1 t.option).value_parser ≡ Some (parser.Unsigned 0 last_number) =
    ap (λ (a : Arg). a.value_parser) (named_gen old t t.option) ∙ ap (λ (r : Rule). r.parser) t.option_rule in
    accepted (slice_index_or (args_of old) 1 t.option) y (parser.Unsigned 0 last_number) v same own accepts

first_passes : (P : List ℕ → Type 0) (vs : List (Bor (List ℕ))) → All (λ v. P v.now) vs → IfSome (option_map (λ s. s.now) (slice_get vs 0)) P
first_passes P [] all = tt
first_passes P (v ∷ vs) all = All-get_or (λ w. P w.now) (v ∷ vs) 0 v (omega arith) all

entry_passes : (old : Command) (m : ArgMatches) (p : IsParsedFrom old m) → TwoArgs old → (e : Entry) → e.0.now ≡ codes "gen" → EntryPasses p.built e → All (λ v. IsUnsignedIn 0 last_number v.now) e.1.vals.items
entry_passes old m p t e is (inl group, filled, counts, known, read) = absurd (no_group (known group))
  where
    no_group : (e.0.now ≡ []) ⊎ (0 < length (groups_of p.built)) → ⊥
    no_group (inl empty) =
        let first : 103 ≡ 0 = ap (λ (xs : List ℕ). slice_index xs 0) (sym is ∙ empty) in
        omega (arith, first)
    no_group (inr some) =
        let groups = (p.from.same_groups (names_none old t)).1 ∙ t.groups in
        omega (arith, subst (λ (xs : List ArgGroup). 0 < length xs) groups some)
entry_passes old m p t e is (inr values, filled, counts, known, read) =
    λ k d lt. value_passes old m p t _ (subst (λ (id : List ℕ). PassesArg p.built id (slice_index_or e.1.vals.items k d).now) is (values k d lt))

-- the first value of `--gen`, where it has one, is a number
pub first_is_number : (old : Command) (m : ArgMatches) → IsParsedFrom old m → app_of old ≡ rvemit_app → IfSome (first_value (found_of m) (codes "gen")) (IsUnsignedIn 0 last_number)
first_is_number old m p is = go (matched_of (found_of m) (codes "gen")) refl
  where
    two : TwoArgs old
    two = two_args old is

    values : ValuesPass p.built (found_of m)
    values = (p.parsed (p.from.globals ∙ two.globals)).values

    of_entry : (x : MatchedArg) → ((e : Entry) × (e.1 ≡ x) × (bytes_eq e.0.now (codes "gen") ≡ true) × EntryPasses p.built e) → IfSome (option_map (λ s. s.now) (slice_get x.vals.items 0)) (IsUnsignedIn 0 last_number)
    of_entry x (e, same, id, passes) =
        first_passes (IsUnsignedIn 0 last_number) x.vals.items (subst (λ (y : MatchedArg). All (λ v. IsUnsignedIn 0 last_number v.now) y.vals.items) same (entry_passes old m p two e ((bytes_eq-Decides _ _).0 id) passes))

    go : (o : Option MatchedArg) → matched_of (found_of m) (codes "gen") ≡ o → IfSome (first_value (found_of m) (codes "gen")) (IsUnsignedIn 0 last_number)
    go None found = rw found tt
    go (Some x) found = rw found (of_entry x (entry_by_id (EntryPasses p.built) (found_of m).entries.items (codes "gen") x values found))
