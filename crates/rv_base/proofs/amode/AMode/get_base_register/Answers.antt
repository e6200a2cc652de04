use Rattle.std.proofs.Common.{Some, ap, lit<}
use Rattle.rv_base.proofs.RegEquality.{int_reg_is}
use Rattle.rv_base.proofs.amode.AMode.get_base_register.Goals as goal

pub returns-in-SPOffset : goal.returns-in-SPOffset
returns-in-SPOffset c = rw c.in-SPOffset.is (ap (λ r. Some r) (int_reg_is c.stack_reg.result 2 (lit< tt) c.stack_reg.ensures))

pub returns-in-FPOffset : goal.returns-in-FPOffset
returns-in-FPOffset c = rw c.in-FPOffset.is (ap (λ r. Some r) (int_reg_is c.fp_reg.result 8 (lit< tt) c.fp_reg.ensures))

pub returns-in-SlotOffset : goal.returns-in-SlotOffset
returns-in-SlotOffset c = rw c.in-SlotOffset.is (ap (λ r. Some r) (int_reg_is c.stack_reg-in-SlotOffset.result 2 (lit< tt) c.stack_reg-in-SlotOffset.ensures))

pub returns-in-IncomingArg : goal.returns-in-IncomingArg
returns-in-IncomingArg c = rw c.in-IncomingArg.is (ap (λ r. Some r) (int_reg_is c.stack_reg-in-IncomingArg.result 2 (lit< tt) c.stack_reg-in-IncomingArg.ensures))
