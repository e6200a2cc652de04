-- Loads and stores of floating-point registers on the machine with all units, those of halves by integer registers, too.
use Rattle.rv_code.{proofs.Courses.{IsRealAt, address_same}, proofs.LineSlots.{closed_even, line_loaded}, proofs.Memories.{eight_fit, loaded_same, store_same}, proofs.OperationActs.{float_load, float_store, only_halves}, proofs.Reaching.{goes_on, load_ranges, load_reaches}}
use Rattle.{rv_code.{specs.Accesses.{boxing_pieces, half_load_pieces, half_store_pieces, load_pieces, store_pieces}, specs.InstParts.{moved_to_float, moved_to_integer, store_line_slots}, specs.Pieces.Frr}, rv_full.specs.UnitRows.row_of, rv_machine.specs.Memory.sign_extend}
use Rattle.{rv_machine.{specs.declared.ops.MOp.TheVariants.{FloatLoad, FloatStore}}, rv_ops.{specs.declared.float_fields.FpuOPWidth.TheVariants.{S as single}, specs.declared.fpu_rr.FpuOPRR.TheVariants.FmvFmtX}}
use Rattle.{rv_ops.{specs.declared.memory.LoadOP.TheVariants.Lh, specs.declared.memory.StoreOP.TheVariants.Sh}, rv_runs.{proofs.Exits.{all_same, same_but, starts_at}, proofs.MemoryRuns.{AreReady, DoesThere, IsBefore, before_values, exact_out, before_last, float_ready, store_out, store_ready}}}
use Rattle.rv_runs.proofs.UnitRuns.{extended_small, fiter_one, float_set, unit_next_at}
use Rattle.rv_runs.proofs.Words.{AllByRecursion, AreOutside, AreValues, Based, D, Decoded, Does, Enters, FloatFormat, FullComesOut, slots_of, IsaFlags, FullState, FullValues, H, IsFullState, IsUsableAt, LoadOP, Location, Memory, S, Same, SameBut, Site, State, StoreOP}
use Rattle.rv_runs.proofs.Words.{TrapCode, Units, Values, act, act_on, address_at, addresses_from, are_values_set, at, boxed, byte, environment, extended, fiter_after, float_loaded, format_bytes, freg, has_load, has_store, integer_run, ints, load_bytes, load_format}
use Rattle.rv_runs.{proofs.Words.{load_line_slots, low_part, or_lt, placed_after, put, put_bytes, put_units, put_values, reads_back, reads_other, reg, set_freg, set_reg, size_of, slots_alone, spare_set, store_format, unit_row, w32, wrap}, specs.FloatAccesses.{float_stored, low_bytes}}
use Rattle.std.{proofs.Common.{None, Option, Some, [], ap, arith, false, if◌then◌else◌, is_some, length, lit<, lit≤, refl, rules, subst, sym, true, ℕ, ◌%◌, ◌*◌, ◌+◌, ◌-◌, ◌/◌, ◌<◌, ◌^◌, ◌∙◌, ◌∷◌, ◌≡◌}, proofs.lemmas.Nat.{le_or_r, or_block, or_mod}, specs.Int.w16, specs.Int.Bits.or_zero_r}
use Rattle.std.specs.Int.RustNames.{bit_or}

-- A load or a store of a floating-point register does what it means, on the machine with all units, where the machine has come to it.

-- ---- numbers and bytes

pub loaded_small : (format : FloatFormat) (mem : Memory) (a : ℕ) → ((x : ℕ) → byte mem x < 256) → boxed format (load_bytes mem a (format_bytes format)) < 2 ^ 64
loaded_small H mem a h = let b0 = h (wrap (a + 0)) in let b1 = h (wrap (a + 1)) in omega arith
loaded_small S mem a h = omega arith
loaded_small D mem a h = eight_fit mem a h

pub low_bytes_fit : (format : FloatFormat) (n : ℕ) → AllByRecursion (λ b. b < 256) (low_bytes format n)
low_bytes_fit H n = (omega arith, (omega arith, tt))
low_bytes_fit S n = (omega arith, (omega arith, (omega arith, (omega arith, tt))))
low_bytes_fit D n = (omega arith, (omega arith, (omega arith, (omega arith, (omega arith, (omega arith, (omega arith, (omega arith, tt))))))))

-- ---- what they do

-- a load, by its row
loaded_there : {site : Site} {after : ℕ} {Such : Values → Type 0} {d : Decoded} {v : FullValues} {b : FullState} (format : FloatFormat) (register a : ℕ) (y : IsBefore site after Such d b.state) → SameBut [] v.ints y.comes.state.values → v.units ≡ b.units → AreValues v.ints → IsFullState b → register < 32 →
    ((s : State) → act d s ≡ None) → unit_row d (before_values b.units y) ≡ Does (float_loaded format register a (before_values b.units y)) → DoesThere site d (float_loaded format register a v) b (before_values b.units y)
loaded_there {v = v} {b} format register a y ints units are_values full lt none row = record {
  none = none;
  after = float_loaded format register a (before_values b.units y);
  row = row;
  same = record { ints = all_same ints; units = λ i. set_freg (units i) register (boxed format (loaded_same v.ints.mem y.comes.state.values.mem a (format_bytes format) ints.mem i)) };
  are_values = are_values;
  written = y.comes.course.is_state.values;
  units = float_set b.units register (boxed format (load_bytes y.comes.state.values.mem a (format_bytes format))) full.units lt (loaded_small format y.comes.state.values.mem a y.comes.course.is_state.values.bytes);
  setting = refl;
  placed = y.comes.course.here.placed;
}

module _ {site : Site} {after : ℕ} {d : Decoded} {v : FullValues} {b : FullState} (format : FloatFormat) (register a : ℕ) (y : IsBefore site after (AreReady d a v.ints b.state.values) d b.state) (units : v.units ≡ b.units) (are_values : AreValues v.ints) (full : IsFullState b) where
  pub load_does : d.op ≡ FloatLoad format → d.rd ≡ register → register < 32 → DoesThere site d (float_loaded format register a v) b (before_values b.units y)
  load_does is to lt = loaded_there format register a y y.comes.course.values.same units are_values full lt (λ s. ap (λ op. act_on op d s) is)
      (ap (λ op. row_of op d (before_values b.units y)) is ∙ (λ i. Does (float_loaded format (to i) (y.comes.course.values.address i) (before_values b.units y))))

  pub store_does : d.op ≡ FloatStore format → d.rs2 ≡ register → AreOutside site.base (length site.bytes) (addresses_from a (format_bytes format)) → DoesThere site d (float_stored format register a v) b (before_values b.units y)
  store_does is from clear =
      let bytes = low_bytes format (freg b.units register) in
      record {
        none = λ s. ap (λ op. act_on op d s) is;
        after = float_stored format register a (before_values b.units y);
        row = ap (λ op. row_of op d (before_values b.units y)) is ∙ (λ i. Does (float_stored format (from i) (y.comes.course.values.address i) (before_values b.units y)));
        same = record {
          ints = subst (λ (u : Units). Same (put_bytes v.ints a (low_bytes format (freg u register))) (put_bytes y.comes.state.values a bytes)) (sym units) (record { regs = λ m lt. y.comes.course.values.same.regs m lt refl; mem = store_same v.ints.mem y.comes.state.values.mem a bytes y.comes.course.values.same.mem });
          units = units;
        };
        are_values = put_values v.ints a (low_bytes format (freg v.units register)) are_values (low_bytes_fit format (freg v.units register));
        written = put_values y.comes.state.values a bytes y.comes.course.is_state.values (low_bytes_fit format (freg b.units register));
        units = full.units;
        setting = refl;
        placed = placed_after site y.comes.state.values.mem a bytes y.comes.course.here.placed (subst (λ n. AreOutside site.base (length site.bytes) (addresses_from a n)) (elim format as (λ x. format_bytes x ≡ length (low_bytes x (freg b.units register))) [ H ↦ refl | _ ↦ refl ]) clear);
      }

-- Halves that integer registers move: one with ones above it is boxed, and one that was sign-extended has the same low bytes.

upper_set : (x n : ℕ) → x % 2 ^ 16 ≡ n → bit_or x (2 ^ 64 - 2 ^ 16) % 2 ^ 32 ≡ n + (2 ^ 32 - 2 ^ 16)
upper_set x n e =
    let q = x % 2 ^ 32 / 2 ^ 16 in
    let parts : x % 2 ^ 32 ≡ q * 2 ^ 16 + n = omega arith in
    let all : bit_or q 65535 ≡ 65535 = (let low = le_or_r q 65535 in let high = or_lt 16 q 65535 (omega arith) (omega arith) in omega (arith, low, high)) in
    or_mod x (2 ^ 64 - 2 ^ 16) 32
    ∙ ap (λ y. bit_or y (65535 * 2 ^ 16 + 0)) parts
    ∙ or_block 16 q 65535 n 0 (omega arith) (omega arith)
    ∙ (λ i. all i * 2 ^ 16 + or_zero_r n i)
    ∙ omega arith

-- a half that was sign-extended
pub half_boxed : (n : ℕ) → n < 2 ^ 16 → boxed S (low_part S (bit_or (sign_extend w16 n) (2 ^ 64 - 2 ^ 16))) ≡ boxed H n
half_boxed n lt = ap (λ m. m + (2 ^ 64 - 2 ^ 32)) (upper_set (sign_extend w16 n) n (grind (arith, ints))) ∙ omega arith

-- the low half of a word that was sign-extended
pub half_moved : (n : ℕ) → low_bytes H (extended S n) ≡ low_bytes H n
half_moved n =
    let e : sign_extend w32 (n % 2 ^ 32) % 2 ^ 32 ≡ n % 2 ^ 32 = grind (arith, ints) in
    let first : extended S n % 256 ≡ n % 256 = omega arith in
    let second : extended S n / 256 % 256 ≡ n / 256 % 256 = omega arith in
    λ i. first i ∷ second i ∷ []

-- A half that is loaded by integer registers: lh into x31, the bits above it, which lui puts into x30 and or into x31, and then the move to
-- its register, which takes no answer.

-- ---- the bits above it, and the move

-- the bits from the sixteenth on
abbrev pub upper : ℕ
upper = 2 ^ 64 - 2 ^ 16

-- with them in x31, too
pub record AreBoxed (a : ℕ) (v w : Values) : Type 0 where
  pub same : SameBut [] v w
  pub value : boxed S (low_part S (reg w 31)) ≡ boxed H (load_bytes w.mem a 2)

pub half_ready : {site : Site} {start after : ℕ} {s : State} {v : Values} (rd : ℕ) (loc : Location) (trap : Option TrapCode) → rd < 32 → IsUsableAt loc → Enters site start after (slots_alone (slots_of site.context.flags (half_load_pieces rd trap loc))) s v →
    IsBefore site after (AreBoxed (address_at (environment site start after) v loc) v) (moved_to_float rd 31) s
half_ready {site} {start} {after} {s} {v} rd loc trap lt based e =
    let env = environment site start after in
    let ps = half_load_pieces rd trap loc in
    let a = address_at env v loc in
    let b = address_at env s.values loc in
    let same : b ≡ a = sym (address_same env v s.values loc based e.same) in
    let half = sign_extend w16 (load_bytes s.values.mem b 2) in
    let real : IsRealAt 31 loc = elim loc as (IsRealAt 31) [ Based r o ↦ tt | _ ↦ lit< tt ] in
    before_last ps (Frr FmvFmtX single rd 31) (load_ranges Lh 31 trap loc (boxing_pieces rd) (lit< tt) real (lit< tt, (lit< tt, (lt, tt)))) e
    (goes_on (load_reaches site start after Lh 31 trap loc s.values refl e.is_state.values (lit< tt) based) (λ u k.
    let u1 = set_reg u 30 upper in
    let x = bit_or (reg u1 31) (reg u1 30) in
    let parts : x ≡ bit_or half upper = (λ i. bit_or ((reads_other u 30 31 upper (λ e. absurd (omega arith)) ∙ k.holds (lit< tt)) i) (reads_back u 30 upper k.are_values (lit< tt) (lit< tt) i)) in
    record {
      count = 2;
      values = set_reg u1 31 x;
      ran = refl;
      such = record {
        same = spare_set v u1 31 x (lit≤ tt) (spare_set v u 30 upper (lit≤ tt) (record { regs = λ n below other. e.same.regs n below ∙ sym (k.others n (omega arith) (λ e. absurd (omega arith))); mem = λ m. e.same.mem m ∙ ap (λ mem. byte mem m) (sym k.mem) }));
        value = ap (λ r. boxed S (low_part S r)) (reads_back u1 31 x (are_values_set u 30 upper k.are_values (lit< tt) (lit< tt)) (lit< tt) (lit< tt) ∙ parts)
            ∙ half_boxed (load_bytes s.values.mem b 2) (let b0 = e.is_state.values.bytes (wrap (b + 0)) in let b1 = e.is_state.values.bytes (wrap (b + 1)) in omega arith) ∙ (λ i. boxed H (load_bytes (sym k.mem i) (same i) 2));
      };
    }))

-- ---- the access

pub half_load_out : {site : Site} {start after : ℕ} {v : FullValues} {b : FullState} (rd : ℕ) (loc : Location) (trap : Option TrapCode) → rd < 32 → IsUsableAt loc → Enters site start after (slots_alone (slots_of site.context.flags (half_load_pieces rd trap loc))) b.state v.ints → v.units ≡ b.units → IsFullState b → FullComesOut site after [] (float_loaded H rd (address_at (environment site start after) v.ints loc) v) [] b
half_load_out {site} {start} {after} {v} {b} rd loc trap lt based e units full =
    let z = half_ready rd loc trap lt based e in
    let k = z.comes.course.values in
    exact_out z (loaded_there H rd (address_at (environment site start after) v.ints loc) z k.same units e.are_values full lt (λ s. refl) (ap (λ r. Does (put_units (set_freg b.units rd r) (before_values b.units z))) k.value)) full.answers

-- A half that is stored by an integer register: the move into x30, which takes no answer, and then sh.

pub half_store_out : {site : Site} {start after : ℕ} {v : FullValues} {b : FullState} (src : ℕ) (loc : Location) (trap : Option TrapCode) → IsUsableAt loc → Enters site start after (slots_alone (slots_of site.context.flags (half_store_pieces src trap loc))) b.state v.ints → v.units ≡ b.units → IsFullState b → AreOutside site.base (length site.bytes) (addresses_from (address_at (environment site start after) v.ints loc) 2) → FullComesOut site after [] (float_stored H src (address_at (environment site start after) v.ints loc) v) [] b
half_store_out {site} {start} {after} {v} {b} src loc trap based e units full clear =
    let flags = site.context.flags in
    let number = freg b.units src in
    let z = extended S number in
    let t = at (wrap (b.state.pc + 4)) (set_reg b.state.values 30 z) in
    let c = put t b in
    let fits = extended_small S number (full.units.float_fits src) in
    let before : Enters site (start + 4) after (slots_alone (slots_of flags (store_pieces Sh 30 trap loc))) t v.ints = search (rules, arith, e, (are_values_set b.state.values 30 z e.is_state.values (lit< tt) fits), (all_same (spare_set v.ints b.state.values 30 z (lit≤ tt) (same_but [] e.same)))) in
    let a = address_at (environment site start after) v.ints loc in
    let there : address_at (environment site (start + 4) after) v.ints loc ≡ a = elim loc as (λ l. address_at (environment site (start + 4) after) v.ints l ≡ address_at (environment site start after) v.ints l) [ Based r o ↦ refl | _ ↦ refl ] in
    let g = store_out Sh 30 loc trap refl (lit< tt) based before (subst (λ x. AreOutside site.base (length site.bytes) (addresses_from x 2)) (sym there) clear) in
    let bytes : low_bytes H (reg t.values 30) ≡ low_bytes H (freg v.units src) = ap (low_bytes H) (reads_back b.state.values 30 z e.is_state.values (lit< tt) (lit< tt)) ∙ half_moved number ∙ ap (λ u. low_bytes H (freg u src)) (sym units) in
    let made : put_bytes v.ints (address_at (environment site (start + 4) after) v.ints loc) (low_bytes H (reg t.values 30)) ≡ (float_stored H src a v).ints = λ i. put_bytes v.ints (there i) (bytes i) in
    record {
      steps = g.steps + 1;
      state = put g.state c;
      ran = fiter_after flags g.steps 1 b c (fiter_one flags b c (unit_next_at b (moved_to_integer 30 src) [] refl (starts_at (slots_of flags (half_store_pieces src trap loc)) e) (omega arith) e.stands.1.0)) ∙ integer_run flags g.steps g.state c g.ran;
      pc = g.arrives;
      same = record { ints = subst (λ w. SameBut [] w g.state.values) made g.same; units = units };
      are_values = subst AreValues made g.are_values;
      is_state = record { state = g.is_state; units = full.units; answers = full.answers };
      answers = refl;
      setting = refl;
      placed = g.placed;
    }

-- Loads and stores of floating-point registers run as they mean on the machine with all units: the code of an address, on integers, and
-- then the access, which takes no answer.

-- ---- loads

-- a load of a line has an even number of bytes
pub line_even : (flags : IsaFlags) (rd : ℕ) (op : LoadOP) (trap : Option TrapCode) (loc : Location) → size_of (load_line_slots flags rd op trap loc) % 2 ≡ 0
line_even flags rd op trap loc = closed_even (λ k. None) 0 (load_line_slots flags rd op trap loc) ((line_loaded flags rd op trap loc).closed _ 0)

-- the load of a line, which may be that of a half by integer registers
pub line_load : {site : Site} {start after : ℕ} {v : FullValues} {b : FullState} (rd : ℕ) (op : LoadOP) (trap : Option TrapCode) (loc : Location) (format : FloatFormat) → load_format op ≡ Some format → rd < 32 → IsUsableAt loc → Enters site start after (slots_alone (load_line_slots site.context.flags rd op trap loc)) b.state v.ints → v.units ≡ b.units → IsFullState b → FullComesOut site after [] (float_loaded format rd (address_at (environment site start after) v.ints loc) v) [] b
line_load {site} {start} {after} {v} {b} rd op trap loc format is lt based e units full =
    let a = address_at (environment site start after) v.ints loc in
    (elim (has_load site.context.flags op) as (λ has. has_load site.context.flags op ≡ has → Enters site start after (slots_alone (slots_of site.context.flags (if has then load_pieces op rd trap loc else half_load_pieces rd trap loc))) b.state v.ints → FullComesOut site after [] (float_loaded format rd a v) [] b) [
      | true ↦ λ has e. let y = float_ready rd op loc trap (ap is_some is) lt based e in exact_out y.before (load_does format rd a y.before units e.are_values full (y.is ∙ float_load op format is) y.register lt) full.answers
      | false ↦ λ none e. subst (λ f. FullComesOut site after [] (float_loaded f rd a v) [] b) (sym (only_halves site.context.flags (load_format op) format is none)) (half_load_out rd loc trap lt based e units full)
    ]) refl e

-- ---- stores

-- the store of a line, which may be that of a half by an integer register
pub line_store : {site : Site} {start after : ℕ} {v : FullValues} {b : FullState} (op : StoreOP) (src : ℕ) (trap : Option TrapCode) (loc : Location) (format : FloatFormat) → store_format op ≡ Some format → IsUsableAt loc →
    Enters site start after (slots_alone (store_line_slots site.context.flags op src trap loc)) b.state v.ints → v.units ≡ b.units → IsFullState b → AreOutside site.base (length site.bytes) (addresses_from (address_at (environment site start after) v.ints loc) (format_bytes format)) →
    FullComesOut site after [] (float_stored format src (address_at (environment site start after) v.ints loc) v) [] b
line_store {site} {start} {after} {v} {b} op src trap loc format is based e units full clear =
    let a = address_at (environment site start after) v.ints loc in
    (elim (has_store site.context.flags op) as (λ has. has_store site.context.flags op ≡ has → Enters site start after (slots_alone (slots_of site.context.flags (if has then store_pieces op src trap loc else half_store_pieces src trap loc))) b.state v.ints → FullComesOut site after [] (float_stored format src a v) [] b) [
      | true ↦ λ has e. let y = store_ready op src loc trap based e in exact_out y.before (store_does format src a y.before units e.are_values full (y.is ∙ float_store op format is) y.register clear) full.answers
      | false ↦ λ none e.
          let half = only_halves site.context.flags (store_format op) format is none in
          subst (λ f. FullComesOut site after [] (float_stored f src a v) [] b) (sym half) (half_store_out src loc trap based e units full (subst (λ f. AreOutside site.base (length site.bytes) (addresses_from a (format_bytes f))) half clear))
    ]) refl e
