use Rattle.mach_buffer.proofs.Kept.{kept_recorded}
use Rattle.mach_vectors.proofs.buffer.put_note.Goals as goal

pub returns-in_ok-add_trap-in-Trap-clause-kept : goal.returns-in_ok-add_trap-in-Trap-clause-kept
returns-in_ok-add_trap-in-Trap-clause-kept g c = let e = c.in_ok-add_trap-in-Trap.ensures in kept_recorded c.requires.kept c.add_trap.new.self _ e.sound e.recorded.2

pub returns-in_ok-add_reloc-in-Refers-clause-kept : goal.returns-in_ok-add_reloc-in-Refers-clause-kept
returns-in_ok-add_reloc-in-Refers-clause-kept g c = let e = c.in_ok-add_reloc-in-Refers.ensures in kept_recorded c.requires.kept c.add_reloc.new.self _ e.sound e.recorded.2

pub returns-in_ok-add_reloc_to-in-RefersTo-clause-kept : goal.returns-in_ok-add_reloc_to-in-RefersTo-clause-kept
returns-in_ok-add_reloc_to-in-RefersTo-clause-kept g c = let e = c.in_ok-add_reloc_to-in-RefersTo.ensures in kept_recorded c.requires.kept c.add_reloc_to.new.self _ e.sound e.recorded.2

pub returns-in_ok-add_unwind-in-Makes-clause-kept : goal.returns-in_ok-add_unwind-in-Makes-clause-kept
returns-in_ok-add_unwind-in-Makes-clause-kept g c = let e = c.in_ok-add_unwind-in-Makes.ensures in kept_recorded c.requires.kept c.add_unwind.new.self _ e.sound e.recorded.2

pub returns-in_ok-add_call_site-in-Calls-clause-kept : goal.returns-in_ok-add_call_site-in-Calls-clause-kept
returns-in_ok-add_call_site-in-Calls-clause-kept g c = let e = c.in_ok-add_call_site-in-Calls.ensures in kept_recorded c.requires.kept c.add_call_site.new.self _ e.sound e.recorded.2

pub returns-in_ok-add_try_call_site-in-Throws-clause-kept : goal.returns-in_ok-add_try_call_site-in-Throws-clause-kept
returns-in_ok-add_try_call_site-in-Throws-clause-kept g c = let e = c.in_ok-add_try_call_site-in-Throws.ensures in kept_recorded c.requires.kept c.add_try_call_site.new.self _ e.sound e.recorded.2

pub returns-in_ok-add_patchable_call_site-in-Patches-clause-kept : goal.returns-in_ok-add_patchable_call_site-in-Patches-clause-kept
returns-in_ok-add_patchable_call_site-in-Patches-clause-kept g c = let e = c.in_ok-add_patchable_call_site-in-Patches.ensures in kept_recorded c.requires.kept c.add_patchable_call_site.new.self _ e.sound e.recorded.2

pub returns-in_ok-push_user_stack_map-in-Maps-clause-kept : goal.returns-in_ok-push_user_stack_map-in-Maps-clause-kept
returns-in_ok-push_user_stack_map-in-Maps-clause-kept g c = let e = c.in_ok-push_user_stack_map-in-Maps.ensures in kept_recorded c.requires.kept c.push_user_stack_map.new.self _ e.sound e.recorded.2
