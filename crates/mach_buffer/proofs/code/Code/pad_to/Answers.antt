use Rattle.std.proofs.Common.{rules, ◌≡◌, ◌-◌, length, arith}
use Rattle.mach_buffer.proofs.ConstantsPut.{zeros_taken}
use Rattle.mach_buffer.proofs.code.Code.pad_to.Goals as goal

pub returns-clause-bytes : goal.returns-clause-bytes
returns-clause-bytes g c =
    let long : c.len.result ≡ length c.args.self.now.bytes.items = search rules in
    rw (long, zeros_taken (c.args.offset - length c.args.self.now.bytes.items) 15 (omega (arith, c.requires.near))) at c.append.ensures.bytes
