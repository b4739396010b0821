-- The site part is laid as 0, nothing stands, and the mark is that before any byte: the bytes are all those of a state.
use Prim.Native.Nat.{ℕ}
use mathlib.Core.Path.{refl, ap, ◌∙◌}
use mathlib.Core.List.{List, []}
use Rattle.octets.specs.BigEndian.{laid}
use Rattle.site.specs.Site.{none_yet}
use Rattle.fields.specs.declared.State.{State}
use Rattle.kept.specs.Layout.{top_of}
use Rattle.feed.proofs.CallLaws.{start_not, started}
use Rattle.feed.proofs.calls.start.Goals as goal
use Rattle.feed.proofs.calls.start.Goals.{After-clear_stands, After-first, After-put_top, After-zero, Else-s-ne-SIZE}

pub returns-then-s-ne-SIZE : goal.returns-then-s-ne-SIZE
returns-then-s-ne-SIZE c = let parts = start_not c.args.s.now c.if-s-ne-SIZE.true in record { value = parts.0; s_after = parts.1 }

pub first-requires : goal.first-requires
first-requires c = tt

pub slice_bounds-put_top-end : goal.slice_bounds-put_top-end
slice_bounds-put_top-end c = refl

pub shape_of-s : goal.shape_of-s
shape_of-s c = c.put_top.auto.s ∙ c.clear_stands.auto.s ∙ c.zero.auto.s

pub returns : goal.returns
returns c =
    let put : State → List ℕ = λ st. laid c.clear_stands.new.s 0 (top_of (record { place = 0; state = st; site = 0; tail = 0; due = none_yet }) []) in let parts = started c.args.s.now c.if-s-ne-SIZE.false c.zero.new.s c.clear_stands.new.s c.put_top.new.s c.zero.ensures c.clear_stands.ensures
    (c.put_top.ensures ∙ ap put c.first.ensures) in record { value = parts.0; s_after = parts.1 }
