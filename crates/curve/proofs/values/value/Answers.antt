-- The first point right of x says which piece of the curve x is on; between two points sizes stay within 10^8, since x lies between their x.
use Rattle.whole.proofs.SignLaws.{wide_fits}
use Rattle.curve.proofs.ValueLaws.{Found, first_y, last_y, all_small, line_value}
use Rattle.curve.proofs.values.value.Goals as goal
use Rattle.curve.proofs.values.value.Goals.{After-segment-i}

-- what the search found
found : (c : After-segment-i)
    → let a = c.args in Found a.bytes.now a.place a.x c.count-n.result c.segment-i.result
found c =
    record {
      usable = c.requires;
      fits = c.ranges.x.sfits;
      count = c.count-n.ensures;
      within = c.segment-i.ensures.within;
      before = c.segment-i.ensures.before;
      found = c.segment-i.ensures.found;
    }

pub overflow_cast-result : goal.overflow_cast-result
overflow_cast-result c = wide_fits c.y_at.result c.y_at.type_inv

pub returns-then-i-eq0 : goal.returns-then-i-eq0
returns-then-i-eq0 c = first_y (found (goal.at.returns-then-i-eq0 c).After-segment-i) c.if-i-eq0.true c.y_at.result c.y_at.type_inv c.y_at.ensures

pub overflow_cast-result-then-i-n : goal.overflow_cast-result-then-i-n
overflow_cast-result-then-i-n c = wide_fits c.y_at-py.result c.y_at-py.type_inv

pub returns-then-i-n : goal.returns-then-i-n
returns-then-i-n c =
    last_y (found (goal.at.returns-then-i-n c).After-segment-i) c.if-i-eq0.false c.if-i-n.true c.y_at-py.result c.y_at-py.type_inv c.y_at-py.ensures

pub line-requires : goal.line-requires
line-requires c = let parts = all_small (found (goal.at.line-requires c).After-segment-i) c.if-i-eq0.false c.if-i-n.false
    c.x_at-px.result c.y_at-py.result c.x_at-qx.result c.y_at-qy.result c.x_at-px.type_inv c.y_at-py.type_inv c.x_at-qx.type_inv c.y_at-qy.type_inv
    c.x_at-px.ensures c.y_at-py.ensures c.x_at-qx.ensures c.y_at-qy.ensures in record { px_bound = parts.0; py_bound = parts.1.0; qx_bound = parts.1.1.0; qy_bound = parts.1.1.1.0; x_bound = parts.1.1.1.1 }

pub returns : goal.returns
returns c =
    line_value (found (goal.at.returns c).After-segment-i) c.if-i-eq0.false c.if-i-n.false
    c.x_at-px.result c.y_at-py.result c.x_at-qx.result c.y_at-qy.result c.x_at-px.type_inv c.y_at-py.type_inv c.x_at-qx.type_inv c.y_at-qy.type_inv
    c.x_at-px.ensures c.y_at-py.ensures c.x_at-qx.ensures c.y_at-qy.ensures c.line.result c.line.type_inv c.line.ensures
