use Rattle.std.proofs.Common.{rules, ◌≡◌, ◌∙◌, ap, length, arith, Some, refl}
use Rattle.mach_buffer.proofs.Words.{slice_get-get_or, slice_get_read, length-append, slice_get, aligned_to, bytes_of, registered_of}
use Rattle.mach_buffer.proofs.ConstantsPut.{aligned_is, length_zeros}
use Rattle.mach_buffer.proofs.buffer.MachBuffer.put_constant.Goals as goal

pub append-requires : goal.append-requires
append-requires g c = grind (arith, slice_get-get_or, length-append, length_zeros, aligned_is)

pub returns-clause-shape : goal.returns-clause-shape
returns-clause-shape g c =
    let number = c.args.constant.number in
    let it = c.index-data.result.now in
    let found : slice_get (registered_of c.args.self.now) number ≡ Some it = slice_get_read (registered_of c.args.self.now) (length (registered_of c.args.self.now)) number it refl c.requires.known c.index-data.ensures in
    let long : c.len.result ≡ length (bytes_of c.args.self.now) = search rules in
    let offset : c.aligned_to-offset.result ≡ aligned_to it.align (length (bytes_of c.args.self.now)) = c.aligned_to-offset.ensures.value ∙ ap (aligned_to it.align) long in
    let put = c.in_ok-append.ensures in
    let pad = c.in_ok-pad_to.ensures in
    let bound = c.in_ok-bind_constant.ensures in
    rw (found, put.bytes, pad.bytes, c.as_slice.ensures, put.uses, pad.uses, bound.places, bound.bound, bound.allocated, c.in_ok-push.ensures.items, offset)
