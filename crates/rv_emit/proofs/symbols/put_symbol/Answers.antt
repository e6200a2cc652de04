use Rattle.{rv_emit.{proofs.TableCode.{address_put, fill_put}, proofs.Terms.{refl, sym, subst, ◌∙◌, rules, arith, ints_kept, FitsSigned, to_z-of_z, w64, EmitsAnyhow, Ld, shape_of, with_bytes, with_record, eight_zeros, address_event, longer, load_over_short, both_alone, alone_sound, upper_patchable, load_patchable, addi_patchable}}}
use Rattle.rv_emit.proofs.symbols.put_symbol.Goals as goal

pub returns-in_ok-put_pair-in-LoadExtNameGot-clause-parts : goal.returns-in_ok-put_pair-in-LoadExtNameGot-clause-parts
returns-in_ok-put_pair-in-LoadExtNameGot-clause-parts c =
    let e = c.in_ok-put_pair-in-LoadExtNameGot.ensures in
    λ family. subst (λ i. EmitsAnyhow c.args.flags i c.args.sink.now c.put_pair.new.sink) (sym c.in-LoadExtNameGot.is)
    (λ frame constants setting. fill_put c.args.flags _ _ _ _ _ _ _ (upper_patchable _ _ _ (omega arith) c.enc_auipc-upper.ensures.layout) (load_patchable _ Ld _ _ _ refl (omega arith) c.load_word-lower.ensures) e.put e.sound)

pub returns-in_ok-put_pair-in-LoadExtNameNear-clause-parts : goal.returns-in_ok-put_pair-in-LoadExtNameNear-clause-parts
returns-in_ok-put_pair-in-LoadExtNameNear-clause-parts c =
    let f : FitsSigned w64 c.in-LoadExtNameNear.offset = search rules in
    let e = c.in_ok-put_pair-in-LoadExtNameNear.ensures in
    let put = rw (to_z-of_z w64 c.in-LoadExtNameNear.offset f) at e.put in
    λ family. subst (λ i. EmitsAnyhow c.args.flags i c.args.sink.now c.put_pair-in-LoadExtNameNear.new.sink) (sym c.in-LoadExtNameNear.is)
    (λ frame constants setting. fill_put c.args.flags _ _ _ _ _ _ _ (upper_patchable _ _ _ (omega arith) c.enc_auipc-upper-in-LoadExtNameNear.ensures.layout) (addi_patchable _ _ _ _ (omega arith) c.addition_word-lower.ensures) put e.sound)

pub returns-in_ok-put_symbol_bytes-in-LoadExtNameFar-clause-parts : goal.returns-in_ok-put_symbol_bytes-in-LoadExtNameFar-clause-parts
returns-in_ok-put_symbol_bytes-in-LoadExtNameFar-clause-parts c =
    let f : FitsSigned w64 c.in-LoadExtNameFar.offset = search rules in
    let e = c.in_ok-put_symbol_bytes-in-LoadExtNameFar.ensures in
    λ family. subst (λ i. EmitsAnyhow c.args.flags i c.args.sink.now c.put_symbol_bytes.new.sink) (sym c.in-LoadExtNameFar.is)
    (λ frame constants setting. both_alone _ _ _ _ _ tt c.in_ok-put_load_over-in-LoadExtNameFar.ensures.slots
    (address_put _ _ _ _ _ (e.put ∙ (λ i. with_bytes eight_zeros (with_record (address_event c.in-LoadExtNameFar.name ((to_z-of_z w64 c.in-LoadExtNameFar.offset f) i)) (shape_of c.put_load_over.new.sink)))) e.sound))

pub put_symbol_bytes-requires : goal.put_symbol_bytes-requires
put_symbol_bytes-requires c = record { room = omega (arith, longer _ _ _ (load_over_short c.args.flags _ Ld 8) c.in_ok-put_load_over-in-LoadExtNameFar.ensures.slots, c.requires.room); sound = alone_sound _ _ _ c.in_ok-put_load_over-in-LoadExtNameFar.ensures.slots }

pub enc_auipc-upper-requires : goal.enc_auipc-upper-requires
enc_auipc-upper-requires c = search (rules, (ints_kept c.in-LoadExtNameGot.is c.requires.rule refl))

pub load_word-lower-requires-clause-rd : goal.load_word-lower-requires-clause-rd
load_word-lower-requires-clause-rd c = search (rules, (ints_kept c.in-LoadExtNameGot.is c.requires.rule refl))

pub load_word-lower-requires-clause-base : goal.load_word-lower-requires-clause-base
load_word-lower-requires-clause-base c = (ints_kept c.in-LoadExtNameGot.is c.requires.rule refl).0.0

pub enc_auipc-upper-requires-in-LoadExtNameNear : goal.enc_auipc-upper-requires-in-LoadExtNameNear
enc_auipc-upper-requires-in-LoadExtNameNear c = search (rules, (ints_kept c.in-LoadExtNameNear.is c.requires.rule refl))

pub addition_word-lower-requires : goal.addition_word-lower-requires
addition_word-lower-requires c = (ints_kept c.in-LoadExtNameNear.is c.requires.rule refl).0.0

pub put_load_over-requires-clause-rd : goal.put_load_over-requires-clause-rd
put_load_over-requires-clause-rd c = (ints_kept c.in-LoadExtNameFar.is c.requires.rule refl).0.0
