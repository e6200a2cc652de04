-- The form where there is one, and else the operation of 32 bits, stands in what was chosen.
use Rattle.{std.proofs.Common.{◌≡◌, ℕ, ◌%◌, ℤ, Bool, false, Option, Some, None, refl, sym, subst, ◌∙◌}, std.specs.Prelude.nat_eq, rv_base.specs.declared.flags.IsaFlags.IsaFlags, rv_machine.specs.declared.decoding.Decoded.Decoded}
use Rattle.{rv_machine.specs.Compressed.decode_half, rv_machine.specs.Decode.decode, rv_ops.specs.declared.memory.LoadOP.LoadOP, rv_ops.specs.Memory.load_size, rv_encode.specs.Operations.load_op, rv_encode.specs.Compressed.decoded_sp_load}
use Rattle.{rv_inst.specs.Forms.{chosen, sp, is_scaled, form_where, load_form}, rv_compress.specs.Encoded.{IsForm, IsHalf, IsWord, IsScaledBy}}

pub half_holds : (flags : IsaFlags) (half : ℕ) (form : Option Decoded) (whole : Decoded) → IsForm flags (Some half) form → IsHalf flags half (chosen form whole)
half_holds flags half None whole h = absurd h
half_holds flags half (Some d) whole h = h

pub word_holds : (flags : IsaFlags) (word : ℕ) (form : Option Decoded) (whole : Decoded) → IsForm flags None form → decode flags word ≡ Some whole → whole.len ≡ 4 → IsWord flags word (chosen form whole)
word_holds flags word None whole h e long = record { decodes = e; long = long }
word_holds flags word (Some d) whole h e long = absurd h

-- a load past the stack pointer, by its number of sizes
pub sp_load_is : (flags : IsaFlags) (half rd number : ℕ) (load : LoadOP) (offset : ℤ) → IsScaledBy (load_size load) 63 offset number → nat_eq (half % 4) 3 ≡ false → decode_half flags half ≡ Some (decoded_sp_load load rd number) → IsForm flags (Some half) (form_where (is_scaled (load_size load) 63 offset) (load_form (load_op load) rd sp offset))
sp_load_is flags half rd number load offset scaled narrow e =
    subst (λ (guard : Bool). IsForm flags (Some half) (form_where guard (load_form (load_op load) rd sp offset))) (sym scaled.is)
    (record { narrow = narrow; decodes = e ∙ (λ i. Some (load_form (load_op load) rd sp (sym scaled.same i))); long = refl })
