-- A field that is filled holds its distance, or a part of it, and keeps its other bits.
use Rattle.std.proofs.Common.{◌≡◌, ℕ, zero, suc, ◌+◌, ◌-◌, ◌*◌, ◌/◌, ◌%◌, ◌^◌, ◌<◌, ◌≤◌, Bool, true, false, ◌&&◌, List, [], ◌∷◌, ◌++◌, length, take, drop, slice_index, refl, sym, ap, subst, ◌∙◌, pos, negsuc, ◌+ℤ◌, ◌-ℤ◌, ◌*ℤ◌, arith, bit_and, get_or-drop}
use Rattle.std.specs.Prelude.{ℤ, int_le}
use Rattle.std.proofs.lemmas.Int.{ints}
use Rattle.std.proofs.lemmas.Bool.{and_parts}
use Rattle.std.proofs.lemmas.Bool.Decides.{nat_tests}
use Rattle.std.specs.Int.Bits.{and_mask}
use Rattle.rv_base.specs.LabelUse.{SameOutside}
use Rattle.rv_machine.specs.State.{signed}
use Rattle.rv_machine.specs.Layout.{u_bits, u_imm, i_bits, i_imm}
use Rattle.rv_imms.specs.Splitting.{least, greatest}
use Rattle.rv_inst.specs.Addresses.{is_splittable}
use Rattle.rv_inst.specs.LabelUse.{low32, upper_part, lower_part, marks_of}
use Rattle.rv_inst.specs.LabelUseWords.{word_at, word_bytes, AreBytes}
use Rattle.rv_inst.specs.declared.label_use.LabelUse.TheVariants.{PCRel32, PCRelHi20, PCRelLo12I}
use Rattle.rv_inst.proofs.Patch.{whole, keeps_low, keeps_none}
use Rattle.rv_fill.specs.Filled.{with_upper, with_lower}
use Rattle.rv_asm.specs.Placed.{Holds}

low32_small : (d : ℤ) → low32 d < 4294967296
low32_small (pos n) = omega arith
low32_small (negsuc n) = omega arith

-- ---- words

upper_there : (u word : ℕ) → u < 1048576 → u_bits (word % 4096 + u * 4096) ≡ u
upper_there u word h = omega arith

lower_there : (l word : ℕ) → l < 4096 → i_bits (word % 1048576 + l * 1048576) ≡ l
lower_there l word h = omega arith

upper_small : (d : ℤ) → upper_part d < 1048576
upper_small d = let h = low32_small (d +ℤ pos 2048) in omega (arith, h)

pub upper_holds : (d : ℤ) (word : ℕ) → u_bits (with_upper d word) ≡ upper_part d
upper_holds d word = upper_there (upper_part d) word (upper_small d)

pub lower_holds : (d : ℤ) (word : ℕ) → i_bits (with_lower d word) ≡ low32 d % 4096
lower_holds d word = lower_there (low32 d % 4096) word (omega arith)

-- ---- bytes that are kept

record UpperKeeps (a b c e w : ℕ) : Type 0 where
  first : w % 256 % 256 ≡ a % 256
  second : w / 256 % 256 % 16 ≡ b % 16

upper_keeps_bytes : (a b c e u : ℕ) → a < 256 → UpperKeeps a b c e ((a + 256 * b + 65536 * c + 16777216 * e) % 4096 + u * 4096)
upper_keeps_bytes a b c e u h = record { first = omega arith; second = omega arith }

record LowerKeeps (a b c e w : ℕ) : Type 0 where
  first : w % 256 % 256 ≡ a % 256
  second : w / 256 % 256 % 256 ≡ b % 256
  third : w / 65536 % 256 % 16 ≡ c % 16

lower_keeps_bytes : (a b c e l : ℕ) → a < 256 → b < 256 → LowerKeeps a b c e ((a + 256 * b + 65536 * c + 16777216 * e) % 1048576 + l * 1048576)
lower_keeps_bytes a b c e l ha hb = record { first = omega arith; second = omega arith; third = omega arith }

keeps_all : (x y : ℕ) → x % 256 ≡ y % 256 → bit_and x 255 ≡ bit_and y 255
keeps_all x y e = and_mask x 8 ∙ e ∙ sym (and_mask y 8)

upper_keeps : (d : ℤ) (old : List ℕ) → AreBytes old → UpperKeeps (slice_index old 0) (slice_index old 1) (slice_index old 2) (slice_index old 3) (with_upper d (word_at old))
upper_keeps d old b = upper_keeps_bytes (slice_index old 0) (slice_index old 1) (slice_index old 2) (slice_index old 3) (upper_part d) b.first

lower_keeps : (d : ℤ) (old : List ℕ) → AreBytes old → LowerKeeps (slice_index old 0) (slice_index old 1) (slice_index old 2) (slice_index old 3) (with_lower d (word_at old))
lower_keeps d old b = lower_keeps_bytes (slice_index old 0) (slice_index old 1) (slice_index old 2) (slice_index old 3) (low32 d % 4096) b.first b.second

-- ---- fields

pub holds_upper : (d : ℤ) (old : List ℕ) → AreBytes old → Holds PCRelHi20 d old (word_bytes (with_upper d (word_at old)))
holds_upper d old b =
    let k = upper_keeps d old b in
    record {
      aims = ap (λ (w : ℕ). u_bits w) (whole (with_upper d (word_at old))) ∙ upper_holds d (word_at old);
      kept = (keeps_all _ _ k.first, (keeps_low _ _ k.second, (keeps_none _ _, (keeps_none _ _, tt))));
    }

back : (d : ℤ) → (d -ℤ pos 4) +ℤ pos 4 ≡ d
back d = omega (arith, ints)

pub holds_lower : (d : ℤ) (old : List ℕ) → AreBytes old → Holds PCRelLo12I (d -ℤ pos 4) old (word_bytes (with_lower d (word_at old)))
holds_lower d old b =
    let k = lower_keeps d old b in
    record {
      aims = ap (λ (w : ℕ). i_bits w) (whole (with_lower d (word_at old))) ∙ lower_holds d (word_at old) ∙ sym (ap (λ z. low32 z % 4096) (back d));
      kept = (keeps_all _ _ k.first, (keeps_all _ _ k.second, (keeps_low _ _ k.third, (keeps_none _ _, tt))));
    }

-- both parts make the distance
parts_forward : (n : ℕ) → n ≤ 2147481599 → (signed 524288 (upper_part (pos n)) *ℤ pos 4096) +ℤ signed 2048 (low32 (pos n) % 4096) ≡ pos n
parts_forward n h = grind (arith, ints)

parts_backward : (n : ℕ) → n ≤ 2147485695 → (signed 524288 (upper_part (negsuc n)) *ℤ pos 4096) +ℤ signed 2048 (low32 (negsuc n) % 4096) ≡ negsuc n
parts_backward n h = grind (arith, ints)

parts_sum : (d : ℤ) → is_splittable d ≡ true → (signed 524288 (upper_part d) *ℤ pos 4096) +ℤ signed 2048 (low32 d % 4096) ≡ d
parts_sum (pos n) h = parts_forward n (grind (arith, ints, and_parts))
parts_sum (negsuc n) h = parts_backward n (grind (arith, ints, and_parts))

at_four : (old : List ℕ) (i : ℕ) → slice_index (drop 4 old) i ≡ slice_index old (4 + i)
at_four old i = get_or-drop 4 old i 0

pub holds_pair : (d : ℤ) (old : List ℕ) → AreBytes old → AreBytes (drop 4 old) → is_splittable d ≡ true → Holds PCRel32 d old (word_bytes (with_upper d (word_at old)) ++ word_bytes (with_lower d (word_at (drop 4 old))))
holds_pair d old b c h =
    let k = upper_keeps d old b in
    let l = lower_keeps d (drop 4 old) c in
    let upper : u_imm (word_at (word_bytes (with_upper d (word_at old)))) ≡ signed 524288 (upper_part d) = ap (λ (w : ℕ). u_imm w) (whole (with_upper d (word_at old))) ∙ ap (signed 524288) (upper_holds d (word_at old)) in
    let lower : i_imm (word_at (word_bytes (with_lower d (word_at (drop 4 old))))) ≡ signed 2048 (low32 d % 4096) = ap (λ (w : ℕ). i_imm w) (whole (with_lower d (word_at (drop 4 old)))) ∙ ap (signed 2048) (lower_holds d (word_at (drop 4 old))) in
    record {
      aims = (λ i. (upper i *ℤ pos 4096) +ℤ lower i) ∙ parts_sum d h;
      kept = (
        keeps_all _ _ k.first,
        (
          keeps_low _ _ k.second,
          (
            keeps_none _ _,
            (
              keeps_none _ _,
              (keeps_all _ _ (l.first ∙ ap (λ (m : ℕ). m % 256) (at_four old 0)), (keeps_all _ _ (l.second ∙ ap (λ (m : ℕ). m % 256) (at_four old 1)), (keeps_low _ _ (l.third ∙ ap (λ (m : ℕ). m % 16) (at_four old 2)), (keeps_none _ _, tt)))),
            ),
          ),
        ),
      );
    }
