-- Each number stands where it is read; the state is the one that the site part leads to, with the stage and the steps that are kept.
use lib.ListN.{length}
use Rattle.kept.proofs.NumberLaws.{inside}
use Rattle.kept.proofs.NumberLaws.{mark_is}
use Rattle.kept.proofs.numbers.marked.Goals as goal
use Rattle.kept.proofs.numbers.marked.Goals.{After-due_at-due, After-gone_to-arg-1, After-gone_to-state, After-u16_at, After-u32_at, After-u64_at, After-u8_at}

pub known-r-requires : goal.known-r-requires
known-r-requires c = c.requires

pub u8_at-requires : goal.u8_at-requires
u8_at-requires c = inside 14 (length c.args.s.now) c.requires.long tt

pub u32_at-requires : goal.u32_at-requires
u32_at-requires c = inside 13 (length c.args.s.now) c.requires.long tt

pub gone_to-state-requires : goal.gone_to-state-requires
gone_to-state-requires c = tt

pub due_at-due-requires : goal.due_at-due-requires
due_at-due-requires c = c.requires.long

pub u64_at-requires : goal.u64_at-requires
u64_at-requires c = inside 9 (length c.args.s.now) c.requires.long tt

pub u16_at-requires : goal.u16_at-requires
u16_at-requires c = inside 16 (length c.args.s.now) c.requires.long tt

pub u8_at-requires-2 : goal.u8_at-requires-2
u8_at-requires-2 c = inside 17 (length c.args.s.now) c.requires.long tt

pub returns : goal.returns
returns c =
    mark_is
    c.args.s.now
    c.known-r.result
    c.gone_to-state.result
    c.u64_at.result
    c.u8_at.result
    c.u32_at.result
    c.u16_at.result
    c.u8_at-2.result
    c.due_at-due.result
    c.known-r.ensures
    c.u8_at.ensures
    c.u32_at.ensures
    c.gone_to-state.ensures
    c.u64_at.ensures
    c.u16_at.ensures
    c.u8_at-2.ensures
    c.due_at-due.ensures
