use Rattle.std.proofs.Common.{refl, sym, ap, ◌∙◌, ◌≡◌, ◌+◌, ℕ, [], List, Some, length, subst}
use Rattle.std.specs.Prelude.{nat_lt}
use Rattle.rv_base.specs.declared.flags.IsaFlags.{IsaFlags}
use Rattle.rv_full.specs.Steps.{fiter}
use Rattle.rv_load.specs.declared.callees.Callee.{Callee}
use Rattle.rv_steps.specs.Computed.{HostRuns, with_more}
use Rattle.rv_steps.specs.Files.{lines_from}
use Rattle.rv_run.specs.Memory.{memory_lines}
use Rattle.rv_run.proofs.FullGrows.{unwritten}
use Rattle.rv_steps.proofs.HostGoing.{as_own, as_integer_run}
use Rattle.rv_run.proofs.program.run_from.Goals as goal

pub returns : goal.returns
returns g c =
    let settings = c.args.settings.now in
    let program = c.args.program.now in
    let last = c.run_asked.new.machine in
    let first = c.args.machine in
    let lines = c.run_asked.new.lines.items in
    let size = length program.bytes in
    let steps = c.in_ok-steps.steps in
    let calls = c.in_ok-steps.calls in
    let ending = c.in_ok-steps.ending in
    let RunsIn : ℕ → Type 0 = λ len. HostRuns settings.host settings.trace settings.callees first.flags settings.base len settings.steps first.full (steps + calls) calls last.full ending lines in
    let RunsUnder : IsaFlags → Type 0 = λ flags. HostRuns settings.host settings.trace settings.callees flags settings.base size settings.steps first.full (steps + calls) calls last.full ending lines in
    let RunsWith : List ℕ → Type 0 =
    λ text. HostRuns settings.host settings.trace settings.callees settings.flags settings.base size settings.steps first.full (steps + calls) calls last.full ending text in
    let ran_in : RunsIn size = subst RunsIn c.len.ensures c.in_ok-steps.ensures.0 in
    let ran = subst RunsWith (sym c.from_vec-3.ensures) (subst RunsUnder c.requires.flags ran_in) in
    record {
      first = first;
      last = last;
      begins = c.requires.begins;
      ran = ran;
      own = λ none. as_own settings.flags settings.base size settings.steps first.full steps calls last.full ending settings.callees none settings.host settings.trace _ ran;
      integer = λ none. as_integer_run settings.flags settings.base size settings.steps first.full steps calls last.full ending c.integer_runs.ensures settings.callees none settings.host settings.trace
          _ ran;
      unwritten = unwritten settings.callees settings.flags (steps + calls) (with_more ran.more first.full) last.full ran.ran.steps;
      flags = refl;
      has_callees = ap (λ (n : ℕ). nat_lt 0 n) c.len-2.ensures;
      before = c.in_ok-before.ensures.values;
      after = c.in_ok-after.ensures.values;
      units = c.from_vec.ensures ∙ c.in_ok-units.ensures
          ∙ (λ j. lines_from (c.files_of-files.ensures.floats j) (c.files_of-files.ensures.vectors j) (c.files_of-files.ensures.frm j) (c.files_of-files.ensures.setting j) last.full.units);
      memory = c.from_vec-2.ensures ∙ c.in_ok-memory.ensures
          ∙ (λ j. memory_lines ((c.in_ok-first.ensures.cases ∙ c.integers.ensures) j).state.values.mem (c.integers-2.ensures j).state.values.mem);
    }
