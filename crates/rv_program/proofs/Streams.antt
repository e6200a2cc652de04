-- Texts that are written one after another, and what a call has written by them.
use Rattle.std.proofs.Common.{◌≡◌, ℕ, ◌+◌, ◌≤◌, inl, inr, Bool, true, false, List, ◌++◌, length, take, Option, Result, Ok, Err, refl, sym, subst, length-append, append_assoc, arith}
use Rattle.std.specs.Prelude.{◌==◌, OnOk, IsErrOf, if◌then◌else◌}
use Rattle.std.proofs.lemmas.List.{take-append-le}
use Rattle.std.proofs.Math.Seq.{take-append-add}
use Rattle.std.specs.Io.KnownBytes.{Appends}
use Rattle.std.proofs.KnownBytes.{Appends-trans}
use Rattle.rv_stream.specs.Ends.{Rose, TookFront}
use Rattle.rv_stream.specs.declared.ends.WriteError.{WriteError}
use Rattle.rv_stream.specs.declared.ends.WriteError.TheVariants as write
use Rattle.rv_program.specs.declared.answer.Answer.{Answer}
use Rattle.rv_program.specs.declared.ending.Ending.{Ending}
use Rattle.rv_program.specs.declared.ending.Ending.TheVariants as ends
use Rattle.rv_program.specs.Endings.{Stream, stream, Writes, Wrote, WroteFront, Tells, Concludes, Meaning, Call, Due, Ended, Started, ending_of}

front_more : (a b : Option (List ℕ)) (xs ys : List ℕ) → TookFront a b xs → TookFront a b (xs ++ ys)
front_more a b xs ys (n, short, appended) =
    (n, omega (arith, short, length-append xs ys), subst (λ (t : List ℕ). Appends a b t) (sym (take-append-le n xs ys short)) appended)

front_after : (a b c : Option (List ℕ)) (xs ys : List ℕ) → Appends a b xs → TookFront b c ys → TookFront a c (xs ++ ys)
front_after a b c xs ys before (n, short, appended) =
    (length xs + n, omega (arith, short, length-append xs ys), subst (λ (t : List ℕ). Appends a c t) (sym (take-append-add xs ys n)) (Appends-trans a b c xs (take n ys) before appended))

rose_later : (before mid now : ℕ) → before ≤ mid → Rose mid now → Rose before now
rose_later before mid now later (inl more) = inl (omega (arith, later, more))
rose_later before mid now later (inr full) = inr full

-- nothing more is written after a text that wasn't
pub writes_more : (s : Stream) (xs ys : List ℕ) (error : WriteError) → Writes s xs (Err error) → Writes s (xs ++ ys) (Err error)
writes_more s xs ys error w = record {
  all = tt;
  front = front_more s.bytes s.bytes_after xs ys w.front;
  failed = w.failed;
  later = w.later;
}

all_after : (a b c : Option (List ℕ)) (xs ys : List ℕ) (result : Result Unit WriteError) → Appends a b xs → OnOk result (Appends b c ys) → OnOk result (Appends a c (xs ++ ys))
all_after a b c xs ys (Ok x) before after = Appends-trans a b c xs ys before after
all_after a b c xs ys (Err error) before after = tt

pub writes_then : (a b c : Option (List ℕ)) (m n k : ℕ) (xs ys : List ℕ) (done : Unit) (result : Result Unit WriteError) → Writes (stream a b m n) xs (Ok done) → OnOk result (Appends b c ys) → TookFront b c ys → (IsErrOf result write.Failed → Rose n k) → n ≤ k → Writes (stream a c m k) (xs ++ ys) result
writes_then a b c m n k xs ys done result first all front failed later = record {
  all = all_after a b c xs ys result first.all all;
  front = front_after a b c xs ys first.all front;
  failed = λ is. rose_later m n k first.later (failed is);
  later = omega (arith, first.later, later);
}

-- two texts after one, as one
pub joined : (s : Stream) (xs ys zs : List ℕ) (result : Result Unit WriteError) → Writes s ((xs ++ ys) ++ zs) result → Writes s (xs ++ (ys ++ zs)) result
joined s xs ys zs result w = subst (λ (t : List ℕ). Writes s t result) (append_assoc xs ys zs) w

told_short : (answer : Answer) (errors : Stream) (none : Bool) (other : Ending) → Writes errors (answer.notes ++ answer.error) (Err write.Failed) → (answer.status == 0) ≡ none → Tells answer errors (if none then ends.WriteFault else ends.Answered answer.status)
told_short answer errors true other w is = (w.failed refl, w.front)
told_short answer errors false other w is = (refl, w.front, λ zero. absurd (cc (is, zero)))

told_full : (answer : Answer) (errors : Stream) (none : Bool) → Writes errors (answer.notes ++ answer.error) (Err write.OutOfMemory) → (answer.status == 0) ≡ none → Tells answer errors (if none then ends.OutOfMemory else ends.Answered answer.status)
told_full answer errors true w is = w.front
told_full answer errors false w is = (refl, w.front, λ zero. absurd (cc (is, zero)))

-- how a call ends whose output was written
pub tells : (answer : Answer) (errors : Stream) (told : Result Unit WriteError) → Writes errors (answer.notes ++ answer.error) told → Tells answer errors (ending_of told answer.status)
tells answer errors (Ok x) w = (refl, w.front, λ zero. w.all)
tells answer errors (Err write.Failed) w = told_short answer errors (answer.status == 0) ends.TooLong w refl
tells answer errors (Err write.OutOfMemory) w = told_full answer errors (answer.status == 0) w refl

pub concludes : (name : List ℕ) (answer : Answer) (sink errors : Stream) (ending : Ending) → Wrote sink answer.output → WroteFront sink answer.output → Tells answer errors ending → Concludes name answer sink errors ending
concludes name answer sink errors (ends.Answered status) all front (is, told, whole) = (is, (all, told, whole))
concludes name answer sink errors (ends.NoWords fault) all front told = absurd told
concludes name answer sink errors ends.ReadFault all front told = absurd told
concludes name answer sink errors ends.WriteFault all front (failed, told) = (inr failed, (front, inr told))
concludes name answer sink errors ends.TooLong all front told = absurd told
concludes name answer sink errors ends.OutOfMemory all front told = (front, inr told)

-- an answer that was due was written, or as much of it as could be
pub ended : {J : Type 0} (m : Meaning J) (c : Call) (answer : Answer) (ending : Ending) → Due m c answer → Concludes m.name answer c.sink c.errors ending → Ended m c ending
ended m c answer (ends.Answered status) due (is, whole) = (answer, due, is, whole)
ended m c answer (ends.NoWords fault) due done = absurd done
ended m c answer ends.ReadFault due done = absurd done
ended m c answer ends.WriteFault due (failed, cut) = (answer, due, failed, cut)
ended m c answer ends.TooLong due done = absurd done
ended m c answer ends.OutOfMemory due cut = inr (answer, due, cut)

-- the call of a process is a call
pub started : {J : Type 0} (m : Meaning J) (c : Call) (ending : Ending) → Ended m c ending → Started m ending
started m c (ends.Answered status) is = (c, is)
started m c (ends.NoWords fault) is = absurd is
started m c ends.ReadFault is = (c, is)
started m c ends.WriteFault is = (c, is)
started m c ends.TooLong is = (c, is)
started m c ends.OutOfMemory is = (c, is)
