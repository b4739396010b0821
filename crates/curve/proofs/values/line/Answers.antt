-- Every operation has room at sizes up to 10^8, so that the code works out the definition.
use Rattle.curve.proofs.LineFits.{small_fits, high_fits, far_fits, run_fits, rise_fits, line_fits, line_is}
use Rattle.curve.proofs.values.line.Goals as goal

pub overflow_cast-left : goal.overflow_cast-left
overflow_cast-left c = small_fits c.args.px c.requires.px_bound

pub overflow_cast-low : goal.overflow_cast-low
overflow_cast-low c = small_fits c.args.py c.requires.py_bound

pub overflow_cast-rise : goal.overflow_cast-rise
overflow_cast-rise c = small_fits c.args.qy c.requires.qy_bound

pub overflow_sub-rise : goal.overflow_sub-rise
overflow_sub-rise c = let a = c.args in high_fits a.px a.py a.qx a.qy a.x (c.requires.px_bound, (c.requires.py_bound, (c.requires.qx_bound, (c.requires.qy_bound, c.requires.x_bound))))

pub overflow_sub-rise-2 : goal.overflow_sub-rise-2
overflow_sub-rise-2 c = let a = c.args in far_fits a.px a.py a.qx a.qy a.x (c.requires.px_bound, (c.requires.py_bound, (c.requires.qx_bound, (c.requires.qy_bound, c.requires.x_bound))))

pub overflow_mul-rise : goal.overflow_mul-rise
overflow_mul-rise c = let a = c.args in rise_fits a.px a.py a.qx a.qy a.x (c.requires.px_bound, (c.requires.py_bound, (c.requires.qx_bound, (c.requires.qy_bound, c.requires.x_bound))))

pub overflow_cast-qx : goal.overflow_cast-qx
overflow_cast-qx c = small_fits c.args.qx c.requires.qx_bound

pub overflow_sub-qx : goal.overflow_sub-qx
overflow_sub-qx c = let a = c.args in run_fits a.px a.py a.qx a.qy a.x (c.requires.px_bound, (c.requires.py_bound, (c.requires.qx_bound, (c.requires.qy_bound, c.requires.x_bound))))

pub overflow_add-result : goal.overflow_add-result
overflow_add-result c =
    let a = c.args in
    line_fits a.px a.py a.qx a.qy a.x (c.requires.px_bound, (c.requires.py_bound, (c.requires.qx_bound, (c.requires.qy_bound, c.requires.x_bound)))) c.unsigned_abs-run.result c.cut.result c.unsigned_abs-run.ensures.value c.cut.type_inv c.cut.ensures

pub returns : goal.returns
returns c =
    let a = c.args in
    line_is a.px a.py a.qx a.qy a.x (c.requires.px_bound, (c.requires.py_bound, (c.requires.qx_bound, (c.requires.qy_bound, c.requires.x_bound)))) c.unsigned_abs-run.result c.cut.result c.unsigned_abs-run.ensures.value c.cut.type_inv c.cut.ensures
