-- What was due and is known ends a call, and without a fault the words and the input settle how it ends.
use Rattle.std.proofs.Common.{◌≡◌, ℕ, ◌<◌, ◌≤◌, inl, inr, Bool, List, length, Option, Some, None, Ok, Err, refl, sym, ap, subst, length-append, arith}
use Rattle.std.specs.Prelude.{IfSome, IfOk, Result}
use Rattle.rv_base.specs.declared.out_of_memory.OutOfMemory.{OutOfMemory}
use Rattle.std.specs.Io.KnownBytes.{Appends, Consumes}
use Rattle.clap.specs.Words.{Text}
use Rattle.rv_inst.specs.declared.error.EmitError.{EmitError}
use Rattle.rv_inst.specs.declared.error.EmitError.TheVariants as errors
use Rattle.rv_inst.specs.declared.code.Code.{Code}
use Rattle.rv_inst.specs.declared.job.Job.{Job}
use Rattle.rv_gen.specs.Generated.{gen_job}
use Rattle.rv_listing.specs.Reading.{reads}
use Rattle.rv_stream.specs.Ends.{Gave}
use Rattle.rv_asm.specs.Refusal.{Finds, refusal}
use Rattle.rv_command.specs.Words.{asked}
use Rattle.rv_command.specs.declared.words.Request.{Request}
use Rattle.rv_command.specs.declared.words.Request.TheVariants.{Listing, Generated}
use Rattle.rv_command.specs.declared.answer.Answer.{Answer}
use Rattle.rv_command.specs.declared.outcome.Outcome.{Outcome}
use Rattle.rv_command.specs.declared.outcome.Outcome.TheVariants as ends
use Rattle.rv_command.specs.Outcomes.{Call, input_limit, AsksListing, Read, HasJob, Is, KnownJob, Due, Means, MeansInput, IsRefused, Writes, Ended, RunsFully, IsOrOutOfMemory, IsDone, NoFault, IsSettled}

written : (c : Call) (outcome : Outcome) (text : List ℕ) → Due c outcome text → Appends c.taken c.taken_after text → Ended c outcome
written c ends.Usage text due appended = (text, due, appended)
written c ends.TooLong text due appended = (text, due, appended)
written c (ends.Syntax line) text due appended = (text, due, appended)
written c (ends.Refused error) text due appended = (text, due, appended)
written c (ends.Done code) text due appended = (text, due, appended)
written c ends.ReadFault text due appended = absurd due
written c ends.WriteFault text due appended = absurd due
written c ends.OutOfMemory text due appended = absurd due

pub ended_written : (c : Call) (answer : Answer) (returned : Outcome) → Due c answer.outcome answer.text → Writes (Ok answer) c.taken c.taken_after c.write_faults c.write_faults_after returned → Ended c returned
ended_written c answer returned due (inl (is, appended)) = subst (λ (o : Outcome). Ended c o) (sym is) (written c answer.outcome answer.text due appended)
ended_written c answer returned due (inr (inl (is, rose, front))) = subst (λ (o : Outcome). Ended c o) (sym is) (rose, (answer.outcome, answer.text, due, front))
ended_written c answer returned due (inr (inr (is, front))) = subst (λ (o : Outcome). Ended c o) (sym is) (inr (answer.outcome, answer.text, due, front))

-- ---- what is due

pub due_of_job : (c : Call) (request : Request) (job : Job) (outcome : Outcome) (text : List ℕ) → asked c.words ≡ Some request → HasJob c request job → Means request job outcome text → Due c outcome text
due_of_job c request job (ends.Done code) text is has means = (request, is, job, has, means)
due_of_job c request job (ends.Refused error) text is has means = (request, is, job, has, means)
due_of_job c request job (ends.Syntax line) text is has means = absurd means
due_of_job c request job ends.Usage text is has means = absurd means
due_of_job c request job ends.TooLong text is has means = absurd means
due_of_job c request job ends.ReadFault text is has means = absurd means
due_of_job c request job ends.WriteFault text is has means = absurd means
due_of_job c request job ends.OutOfMemory text is has means = absurd means

pub due_of_input : (c : Call) (with_texts : Bool) (input : List ℕ) (outcome : Outcome) (text : List ℕ) → asked c.words ≡ Some (Listing with_texts) → Read c input → MeansInput (Listing with_texts) input outcome text → Due c outcome text
due_of_input c with_texts input (ends.Done code) text is read (job, reads, means) = (Listing with_texts, is, job, (input, read, reads), means)
due_of_input c with_texts input (ends.Refused error) text is read (job, reads, means) = (Listing with_texts, is, job, (input, read, reads), means)
due_of_input c with_texts input (ends.Syntax line) text is read means = ((with_texts, is), (input, read, means.0), means.1)
due_of_input c with_texts input ends.Usage text is read means = absurd means
due_of_input c with_texts input ends.TooLong text is read means = absurd means
due_of_input c with_texts input ends.ReadFault text is read means = absurd means
due_of_input c with_texts input ends.WriteFault text is read means = absurd means
due_of_input c with_texts input ends.OutOfMemory text is read means = absurd means

-- the outcome of a job is that of the input that it was read from
pub input_of_job : (request : Request) (input : List ℕ) (job : Job) (outcome : Outcome) (text : List ℕ) → reads input ≡ Ok job → Means request job outcome text → MeansInput request input outcome text
input_of_job request input job (ends.Done code) text reads means = (job, reads, means)
input_of_job request input job (ends.Refused error) text reads means = (job, reads, means)
input_of_job request input job (ends.Syntax line) text reads means = absurd means
input_of_job request input job ends.Usage text reads means = absurd means
input_of_job request input job ends.TooLong text reads means = absurd means
input_of_job request input job ends.ReadFault text reads means = absurd means
input_of_job request input job ends.WriteFault text reads means = absurd means
input_of_job request input job ends.OutOfMemory text reads means = absurd means

-- ---- refusals

pub is_refused : (job : Job) (error : EmitError) → (error ≡ errors.OutOfMemory → ⊥) → Finds {X = Unit {0}} (refusal job) (Err error) → IsRefused job error
is_refused job errors.OutOfMemory real is = absurd (real refl)
is_refused job errors.BadFrame real is = is
is_refused job (errors.Malformed index rule) real is = is
is_refused job (errors.LabelTwice label) real is = is
is_refused job (errors.UnboundLabel label) real is = is
is_refused job errors.TooLarge real is = is

refused_job : (job : Job) (error : EmitError) → IsRefused job error → refusal job ≡ Some error
refused_job job errors.OutOfMemory is = absurd is
refused_job job errors.BadFrame is = is
refused_job job (errors.Malformed index rule) is = is
refused_job job (errors.LabelTwice label) is = is
refused_job job (errors.UnboundLabel label) is = is
refused_job job errors.TooLarge is = is

-- ---- on the machine with all units

pub runs_fully : (c : Call) (returned : Outcome) → Ended c returned → RunsFully c returned
runs_fully c (ends.Done code) ended =
    let (request, is, job, has, means) = ended.1 in
    let (accepted, reported, runs, full, operations, full_operations, ranges) = means.0 in
    (request, is, job, has, full)
runs_fully c ends.Usage ended = tt
runs_fully c ends.TooLong ended = tt
runs_fully c (ends.Syntax line) ended = tt
runs_fully c (ends.Refused error) ended = tt
runs_fully c ends.ReadFault ended = tt
runs_fully c ends.WriteFault ended = tt
runs_fully c ends.OutOfMemory ended = tt

-- ---- without a fault

where_left : (left : Option (List ℕ)) (P : List ℕ → Type 0) → ((input : List ℕ) → left ≡ Some input → P input) → IfSome left P
where_left None P f = tt
where_left (Some input) P f = f input refl

at_left : (left : Option (List ℕ)) (P : List ℕ → Type 0) (input : List ℕ) → IfSome left P → left ≡ Some input → P input
at_left left P input holds is = subst (λ (l : Option (List ℕ)). IfSome l P) is holds

-- what was read is what was left
input_is : (c : Call) (input own : List ℕ) → c.left ≡ Some input → Read c own → own ≡ input
input_is c input own is read = at_left c.left (λ left. own ≡ left) input read.0 is

gave_more : (a b : Option (List ℕ)) (bytes : List ℕ) (n : ℕ) → Consumes a b bytes → n < length bytes → IfSome a (λ left. n < length left)
gave_more None b bytes n took more = tt
gave_more (Some xs) None bytes n took more = absurd took
gave_more (Some xs) (Some ys) bytes n took more = omega (arith, ap length took, length-append bytes ys)

long_input : (c : Call) (input : List ℕ) → c.left ≡ Some input → Gave (λ n. input_limit < n) c.left c.left_after → input_limit < length input
long_input c input is long = at_left c.left (λ left. input_limit < length left) input (gave_more c.left c.left_after long.0 input_limit long.1 long.2) is

-- words ask for one thing
one_request : (words : List Text) (request other : Request) → asked words ≡ Some request → asked words ≡ Some other → request ≡ other
one_request words request other is also = cc

-- a listing that is read has the job that is known
job_is : (c : Call) (request other : Request) (job own : Job) → request ≡ other → KnownJob c request job → HasJob c other own → own ≡ job
job_is c (Listing with_texts) (Listing also) job own same (input, is, short, good) (mine, read, means) =
    let inputs : mine ≡ input = input_is c input mine is read in
    cc (ap reads inputs)
job_is c (Listing with_texts) (Generated number) job own same known has = absurd (cc)
job_is c (Generated number) (Listing with_texts) job own same known has = absurd (cc)
job_is c (Generated number) (Generated other) job own same known has =
    let numbers : number ≡ other = cc in
    cc (ap gen_job numbers)

-- a source that is read in vain was asked for a listing, and what it has is too long
too_long_job : (c : Call) (request : Request) (job : Job) (with_texts : Bool) → asked c.words ≡ Some request → KnownJob c request job → asked c.words ≡ Some (Listing with_texts) → Gave (λ n. input_limit < n) c.left c.left_after → ⊥
too_long_job c (Listing own) job with_texts is (input, left, short, good) also gave = omega (arith, short, long_input c input left gave)
too_long_job c (Generated number) job with_texts is known also gave = absurd (cc)

-- an input that has no job isn't known to have one
bad_line_job : (c : Call) (request : Request) (job : Job) (with_texts : Bool) (line : ℕ) (own : List ℕ) → asked c.words ≡ Some request → KnownJob c request job → asked c.words ≡ Some (Listing with_texts) → Read c own → reads own ≡ Err line → ⊥
bad_line_job c (Listing other) job with_texts line own is (input, left, short, good) also read bad =
    let inputs : own ≡ input = input_is c input own left read in
    absurd (cc (ap reads inputs))
bad_line_job c (Generated number) job with_texts line own is known also read bad = absurd (cc)

settles_usage : (c : Call) (returned : Outcome) → Ended c returned → asked c.words ≡ None → NoFault c → IsOrOutOfMemory returned ends.Usage
settles_usage c ends.Usage ended words fine = inl refl
settles_usage c ends.OutOfMemory ended words fine = inr refl
settles_usage c ends.WriteFault ended words fine = absurd (fine.writes ended.0)
settles_usage c ends.ReadFault ended words fine = absurd (cc (ended.0.1))
settles_usage c ends.TooLong ended words fine = absurd (cc (ended.1.0.1))
settles_usage c (ends.Syntax line) ended words fine = absurd (cc (ended.1.0.1))
settles_usage c (ends.Refused error) ended words fine = absurd (cc (ended.1.1))
settles_usage c (ends.Done code) ended words fine = absurd (cc (ended.1.1))

-- what was read of a listing is no longer than it may be
short_listing : (c : Call) (request : Request) (job : Job) (with_texts : Bool) (input : List ℕ) → c.left ≡ Some input → asked c.words ≡ Some (Listing with_texts) → asked c.words ≡ Some request → HasJob c request job → length input ≤ input_limit
short_listing c (Listing own) job with_texts input left also is (mine, read, means) = subst (λ (xs : List ℕ). length xs ≤ input_limit) (input_is c input mine left read) read.1
short_listing c (Generated number) job with_texts input left also is has = absurd (cc)

settles_long : (c : Call) (returned : Outcome) (input : List ℕ) → c.left ≡ Some input → Ended c returned → AsksListing c → NoFault c → input_limit < length input → IsOrOutOfMemory returned ends.TooLong
settles_long c ends.Usage input is ended asks fine long = absurd (cc (ended.1.0, asks.1))
settles_long c ends.OutOfMemory input is ended asks fine long = inr refl
settles_long c ends.WriteFault input is ended asks fine long = absurd (fine.writes ended.0)
settles_long c ends.ReadFault input is ended asks fine long = absurd (fine.reads asks ended.1)
settles_long c ends.TooLong input is ended asks fine long = inl refl
settles_long c (ends.Syntax line) input is ended asks fine long =
    let read = ended.1.1 in
    absurd (omega (arith, long, subst (λ (xs : List ℕ). length xs ≤ input_limit) (input_is c input read.0 is read.1) read.1.1))
settles_long c (ends.Refused error) input is ended asks fine long =
    let (request, words, job, has, means) = ended.1 in
    absurd (omega (arith, long, short_listing c request job asks.0 input is asks.1 words has))
settles_long c (ends.Done code) input is ended asks fine long =
    let (request, words, job, has, means) = ended.1 in
    absurd (omega (arith, long, short_listing c request job asks.0 input is asks.1 words has))

-- a listing whose lines are no job has none
no_job : (c : Call) (request : Request) (job : Job) (with_texts : Bool) (input : List ℕ) (line : ℕ) → c.left ≡ Some input → reads input ≡ Err line → asked c.words ≡ Some (Listing with_texts) → asked c.words ≡ Some request → HasJob c request job → ⊥
no_job c (Listing own) job with_texts input line left bad also is (mine, read, means) =
    let inputs : mine ≡ input = input_is c input mine left read in
    absurd (cc (ap reads inputs))
no_job c (Generated number) job with_texts input line left bad also is has = absurd (cc)

settles_syntax : (c : Call) (returned : Outcome) (input : List ℕ) (line : ℕ) → c.left ≡ Some input → Ended c returned → AsksListing c → NoFault c → length input ≤ input_limit → reads input ≡ Err line → IsOrOutOfMemory returned (ends.Syntax line)
settles_syntax c ends.Usage input line is ended asks fine short bad = absurd (cc (ended.1.0, asks.1))
settles_syntax c ends.OutOfMemory input line is ended asks fine short bad = inr refl
settles_syntax c ends.WriteFault input line is ended asks fine short bad = absurd (fine.writes ended.0)
settles_syntax c ends.ReadFault input line is ended asks fine short bad = absurd (fine.reads asks ended.1)
settles_syntax c ends.TooLong input line is ended asks fine short bad = absurd (omega (arith, short, long_input c input is ended.1.1))
settles_syntax c (ends.Syntax other) input line is ended asks fine short bad =
    let read = ended.1.1 in
    let inputs : read.0 ≡ input = input_is c input read.0 is read.1 in
    let same : other ≡ line = cc (ap reads inputs, read.2) in
    inl (ap (λ (n : ℕ). ends.Syntax n) same)
settles_syntax c (ends.Refused error) input line is ended asks fine short bad =
    let (request, words, job, has, means) = ended.1 in
    absurd (no_job c request job asks.0 input line is bad asks.1 words has)
settles_syntax c (ends.Done code) input line is ended asks fine short bad =
    let (request, words, job, has, means) = ended.1 in
    absurd (no_job c request job asks.0 input line is bad asks.1 words has)

settles_refused : (c : Call) (returned : Outcome) → Ended c returned → NoFault c → (request : Request) (job : Job) (error : EmitError) → asked c.words ≡ Some request → KnownJob c request job → refusal job ≡ Some error → IsOrOutOfMemory returned (ends.Refused error)
settles_refused c ends.Usage ended fine request job error is known due = absurd (cc (ended.1.0))
settles_refused c ends.OutOfMemory ended fine request job error is known due = inr refl
settles_refused c ends.WriteFault ended fine request job error is known due = absurd (fine.writes ended.0)
settles_refused c ends.ReadFault ended fine request job error is known due = absurd (fine.reads ended.0 ended.1)
settles_refused c ends.TooLong ended fine request job error is known due = absurd (too_long_job c request job ended.1.0.0 is known ended.1.0.1 ended.1.1)
settles_refused c (ends.Syntax line) ended fine request job error is known due =
    let (asks, read, text) = ended.1 in
    absurd (bad_line_job c request job asks.0 line read.0 is known asks.1 read.1 read.2)
settles_refused c (ends.Refused other) ended fine request job error is known due =
    let (own, words, mine, has, means) = ended.1 in
    let found : refusal mine ≡ Some other = refused_job mine other means.0 in
    let jobs : mine ≡ job = job_is c request own job mine (one_request c.words request own is words) known has in
    let same : other ≡ error = cc (ap (λ (j : Job). refusal j) jobs) in
    inl (ap (λ (e : EmitError). ends.Refused e) same)
settles_refused c (ends.Done code) ended fine request job error is known due =
    let (own, words, mine, has, means) = ended.1 in
    let (found, reported, runs, full, operations, full_operations, ranges) = means.0 in
    let jobs : mine ≡ job = job_is c request own job mine (one_request c.words request own is words) known has in
    absurd (cc (ap (λ (j : Job). refusal j) jobs))

completes : (c : Call) (returned : Outcome) → Ended c returned → NoFault c → (request : Request) (job : Job) → asked c.words ≡ Some request → KnownJob c request job → refusal job ≡ None → IsDone returned
completes c ends.Usage ended fine request job is known valid = absurd (cc (ended.1.0))
completes c ends.OutOfMemory ended fine request job is known valid = tt
completes c ends.WriteFault ended fine request job is known valid = absurd (fine.writes ended.0)
completes c ends.ReadFault ended fine request job is known valid = absurd (fine.reads ended.0 ended.1)
completes c ends.TooLong ended fine request job is known valid = absurd (too_long_job c request job ended.1.0.0 is known ended.1.0.1 ended.1.1)
completes c (ends.Syntax line) ended fine request job is known valid =
    let (asks, read, text) = ended.1 in
    absurd (bad_line_job c request job asks.0 line read.0 is known asks.1 read.1 read.2)
completes c (ends.Refused other) ended fine request job is known valid =
    let (own, words, mine, has, means) = ended.1 in
    let found : refusal mine ≡ Some other = refused_job mine other means.0 in
    let jobs : mine ≡ job = job_is c request own job mine (one_request c.words request own is words) known has in
    absurd (cc (ap (λ (j : Job). refusal j) jobs))
completes c (ends.Done code) ended fine request job is known valid = tt

pub settled : (c : Call) (returned : Outcome) → Ended c returned → IsSettled c returned
settled c returned ended = record {
  usage = λ words fine. settles_usage c returned ended words fine;
  too_long = λ asks fine. where_left c.left _ (λ input is long. settles_long c returned input is ended asks fine long);
  syntax_line = λ asks fine. where_left c.left _ (λ input is short line bad. settles_syntax c returned input line is ended asks fine short bad);
  refused = λ fine request job error is known due. settles_refused c returned ended fine request job error is known due;
  complete = λ fine request job is known valid. completes c returned ended fine request job is known valid;
}

-- ---- answers

pub means_of_answer : (request : Request) (job : Job) (outcome : Outcome) (text : List ℕ) (answer : Answer) → Is outcome text answer → Means request job outcome text → Means request job answer.outcome answer.text
means_of_answer request job outcome text answer is means = subst (λ (t : List ℕ). Means request job answer.outcome t) (sym is.1) (subst (λ (o : Outcome). Means request job o text) (sym is.0) means)

pub input_of_answer : (request : Request) (input : List ℕ) (outcome : Outcome) (text : List ℕ) (answer : Answer) → Is outcome text answer → MeansInput request input outcome text → MeansInput request input answer.outcome answer.text
input_of_answer request input outcome text answer is means = subst (λ (t : List ℕ). MeansInput request input answer.outcome t) (sym is.1) (subst (λ (o : Outcome). MeansInput request input o text) (sym is.0) means)

pub due_of_answer : (c : Call) (outcome : Outcome) (text : List ℕ) (answer : Answer) → Is outcome text answer → Due c outcome text → Due c answer.outcome answer.text
due_of_answer c outcome text answer is due = subst (λ (t : List ℕ). Due c answer.outcome t) (sym is.1) (subst (λ (o : Outcome). Due c o text) (sym is.0) due)

-- an answer that there may be was written, or memory ran out before
pub ended_answered : (c : Call) (answer : Result Answer OutOfMemory) (returned : Outcome) → IfOk answer (λ a. Due c a.outcome a.text) → Writes answer c.taken c.taken_after c.write_faults c.write_faults_after returned → Ended c returned
ended_answered c (Ok answer) returned due writes = ended_written c answer returned due writes
ended_answered c (Err error) returned due (is, keeps) = subst (λ (o : Outcome). Ended c o) (sym is) (inl keeps)
