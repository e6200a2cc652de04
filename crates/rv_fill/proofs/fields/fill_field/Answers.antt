use Rattle.std.proofs.Common.{◌≡◌, ℕ, ◌+◌, ◌-◌, ◌%◌, ◌++◌, ◌⊎◌, ⊎_elim, drop, ◌∙◌, ap, arith}
use Rattle.rv_base.specs.declared.reloc.Reloc.{Reloc}
use Rattle.rv_base.specs.declared.reloc.Reloc.TheVariants.{RiscvGotHi20, RiscvPCRelHi20}
use Rattle.rv_inst.specs.Relocations.{field_size}
use Rattle.rv_inst.specs.LabelUseWords.{word_at, word_bytes}
use Rattle.rv_fill.specs.Steps.{with_upper_bits, with_lower_bits}
use Rattle.rv_fill.proofs.Distances.{pair_filled, upper_filled, lower_filled}
use Rattle.rv_fill.proofs.fields.fill_field.Goals as goal

long : (kind : Reloc) (n : ℕ) → (kind ≡ RiscvGotHi20) ⊎ (kind ≡ RiscvPCRelHi20) → n ≡ field_size kind → n ≡ 4
long kind n is e = ⊎_elim (λ h. e ∙ ap field_size h) (λ h. e ∙ ap field_size h) is

pub returns-in-RiscvCallPlt : goal.returns-in-RiscvCallPlt
returns-in-RiscvCallPlt c =
    c.fill_pair.ensures ∙ ap (λ (n : ℕ). word_bytes (with_upper_bits n (word_at c.args.field.now)) ++ word_bytes (with_lower_bits n (word_at (drop 4 c.args.field.now)))) c.low_distance-distance.ensures
    ∙ pair_filled c.args.kind ((c.args.to + (18446744073709551616 - c.args.from)) % 18446744073709551616) c.args.to c.args.field.now c.in-RiscvCallPlt.is (omega arith)

pub returns-in-RiscvGotHi20 : goal.returns-in-RiscvGotHi20
returns-in-RiscvGotHi20 c =
    c.fill_upper.ensures ∙ ap (λ (n : ℕ). word_bytes (with_upper_bits n (word_at c.args.field.now)) ++ drop 4 c.args.field.now) c.low_distance-distance.ensures
    ∙ upper_filled c.args.kind ((c.args.to + (18446744073709551616 - c.args.from)) % 18446744073709551616) c.args.to c.args.field.now c.in-RiscvGotHi20.is (long c.args.kind _ c.in-RiscvGotHi20.is c.requires) (omega arith)
