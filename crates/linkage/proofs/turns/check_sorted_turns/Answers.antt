use Rattle.std.proofs.Common.{refl, length}
use Rattle.linkage.specs.GatherShows.{EntryGiven, ExitGiven}
use Rattle.linkage.proofs.Moved.{sorted_all, sorted_owned, sorted_ordered}
use Rattle.linkage.proofs.NumberChecks.{started_exits, first_twice_turned, none_turned_twice, first_turn_gap, no_turn_gap}
use Rattle.linkage.proofs.Topping.{listed_tops}
use Rattle.linkage.proofs.turns.check_sorted_turns.Goals as goal

pub first_twice-requires : goal.first_twice-requires
first_twice-requires c = sorted_ordered (EntryGiven c.args.traces.now) c.args.gathered.entries.items _ _ c.sort.ensures.permutation c.as_slice.ensures.value c.sort.ensures.ordered

pub returns-in-Some : goal.returns-in-Some
returns-in-Some c =
    let entered = sorted_all (EntryGiven c.args.traces.now) c.args.gathered.entries.items _ c.as_slice.result.now c.sort.ensures.permutation c.as_slice.ensures.value c.requires.gathered.entries in
    first_twice_turned c.args.traces.now c.as_slice.result.now c.args.gathered.exits.items entered c.requires.gathered.exits c.in-Some.mon c.in-Some.turn c.requires.numbers c.in-Some.ensures

pub first_gap-requires-clause-ordered : goal.first_gap-requires-clause-ordered
first_gap-requires-clause-ordered c = sorted_ordered (ExitGiven c.args.traces.now) c.args.gathered.exits.items _ _ c.sort-2.ensures.permutation c.as_slice-2.ensures.value c.sort-2.ensures.ordered

pub first_gap-requires-clause-owned : goal.first_gap-requires-clause-owned
first_gap-requires-clause-owned c =
    sorted_owned (ExitGiven c.args.traces.now) c.args.gathered.exits.items _ c.as_slice-2.result.now c.sort-2.ensures.permutation c.as_slice-2.ensures.value c.args.traces.now.monitors (length c.args.greatest.now) c.requires.greatest.count c.requires.gathered.within.exits

pub first_gap-requires-clause-started : goal.first_gap-requires-clause-started
first_gap-requires-clause-started c =
    let left = sorted_all (ExitGiven c.args.traces.now) c.args.gathered.exits.items _ c.as_slice-2.result.now c.sort-2.ensures.permutation c.as_slice-2.ensures.value c.requires.gathered.exits in
    rw c.requires.greatest.count (started_exits c.args.traces.now c.args.gathered.entries.items c.as_slice-2.result.now c.requires.gathered.entries left)

pub returns-in-Some-first_gap : goal.returns-in-Some-first_gap
returns-in-Some-first_gap c =
    let traces = c.args.traces.now in
    let entries = c.as_slice.result.now in
    let exits = c.as_slice-2.result.now in
    let entered = sorted_all (EntryGiven traces) c.args.gathered.entries.items _ entries c.sort.ensures.permutation c.as_slice.ensures.value c.requires.gathered.entries in
    let left = sorted_all (ExitGiven traces) c.args.gathered.exits.items _ exits c.sort-2.ensures.permutation c.as_slice-2.ensures.value c.requires.gathered.exits in
    let owned = sorted_owned (EntryGiven traces) c.args.gathered.entries.items _ entries c.sort.ensures.permutation c.as_slice.ensures.value traces.monitors traces.monitors refl c.requires.gathered.within.entries in
    let are = listed_tops (EntryGiven traces) entries traces.monitors c.args.greatest.now entered c.requires.greatest in
    first_turn_gap traces entries exits entered left c.args.greatest.now owned are c.in-Some-first_gap.mon c.in-Some-first_gap.turn (none_turned_twice traces entries exits entered left c.requires.numbers c.in_default.ensures) c.in-Some-first_gap.ensures

pub returns : goal.returns
returns c =
    let traces = c.args.traces.now in
    let entries = c.as_slice.result.now in
    let exits = c.as_slice-2.result.now in
    let entered = sorted_all (EntryGiven traces) c.args.gathered.entries.items _ entries c.sort.ensures.permutation c.as_slice.ensures.value c.requires.gathered.entries in
    let left = sorted_all (ExitGiven traces) c.args.gathered.exits.items _ exits c.sort-2.ensures.permutation c.as_slice-2.ensures.value c.requires.gathered.exits in
    let owned = sorted_owned (EntryGiven traces) c.args.gathered.entries.items _ entries c.sort.ensures.permutation c.as_slice.ensures.value traces.monitors traces.monitors refl c.requires.gathered.within.entries in
    let are = listed_tops (EntryGiven traces) entries traces.monitors c.args.greatest.now entered c.requires.greatest in
    no_turn_gap traces entries exits entered left c.args.greatest.now owned are (none_turned_twice traces entries exits entered left c.requires.numbers c.in_default.ensures) c.in_default-first_gap.ensures
