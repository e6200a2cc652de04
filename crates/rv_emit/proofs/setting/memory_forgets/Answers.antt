use Rattle.rv_emit.proofs.{Forgetting.{addresses_forget, asked_forgets, loads_forget, memory_given, stores_forget}, Terms.{context_by, load_addr_fine, load_fine, store_fine}}
use Rattle.rv_emit.proofs.setting.memory_forgets.Goals as goal

pub offset_forgets-requires-clause-fine : goal.offset_forgets-requires-clause-fine
offset_forgets-requires-clause-fine c = (c.requires.rule.0, (load_fine c.in-Load.is c.requires.rule.1).2)

pub offset_forgets-requires-in-Store-clause-fine : goal.offset_forgets-requires-in-Store-clause-fine
offset_forgets-requires-in-Store-clause-fine c = (c.requires.rule.0, (store_fine c.in-Store.is c.requires.rule.1).1)

pub offset_forgets-requires-in-LoadAddr-clause-fine : goal.offset_forgets-requires-in-LoadAddr-clause-fine
offset_forgets-requires-in-LoadAddr-clause-fine c = (c.requires.rule.0, (load_addr_fine c.in-LoadAddr.is c.requires.rule.1).1)

pub returns-in-Load : goal.returns-in-Load
returns-in-Load c = λ family constants. loads_forget (context_by c.args.flags c.args.frame.now constants) c.in-Load.is c.offset_forgets.ensures

pub returns-in-Store : goal.returns-in-Store
returns-in-Store c = λ family constants. stores_forget (context_by c.args.flags c.args.frame.now constants) c.in-Store.is c.offset_forgets-in-Store.ensures

pub returns-in-LoadAddr : goal.returns-in-LoadAddr
returns-in-LoadAddr c = λ family constants. addresses_forget (context_by c.args.flags c.args.frame.now constants) c.in-LoadAddr.is c.offset_forgets-in-LoadAddr.ensures

pub returns-in_default : goal.returns-in_default
returns-in_default c =
    λ family constants. let n = c.in_default in asked_forgets (context_by c.args.flags c.args.frame.now constants) c.args.inst.now c.facts_jump.result c.facts_jump.ensures (λ none. absurd (memory_given c.args.inst.now n.not-Load n.not-Store n.not-LoadAddr family none))
