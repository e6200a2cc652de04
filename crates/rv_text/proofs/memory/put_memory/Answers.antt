use Rattle.std.specs.Prelude.{◌≡◌, ◌++◌, OnOk, string_bytes}
use Rattle.std.proofs.Common.{subst, sym}
use Rattle.rv_inst.specs.declared.inst.Inst.{Inst}
use Rattle.rv_text.specs.Texts.{text_of}
use Rattle.rv_text.proofs.memory.put_memory.Goals as goal

pub returns-in-AtomicLoad : goal.returns-in-AtomicLoad
returns-in-AtomicLoad c = λ family. subst (λ (i : Inst). OnOk c.put_typed_access.result (string_bytes c.put_typed_access.new.out ≡ string_bytes c.args.out.now ++ text_of i)) (sym c.in-AtomicLoad.is) c.put_typed_access.ensures
