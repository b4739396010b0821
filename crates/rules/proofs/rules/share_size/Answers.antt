-- Size, weight and factor are multiplied in 64 bits, which never wraps at these sizes; there is some weight to divide by.
use Rattle.rules.proofs.RuleLaws.{weighted_fits, factored_fits}
use Rattle.rules.proofs.rules.share_size.Goals as goal

pub overflow_mul-result : goal.overflow_mul-result
overflow_mul-result c = let a = c.args in let p = c.requires in record { fits = weighted_fits a.factor a.size a.weight a.weights p.size_bound p.factor_bound p.weight_bound }

pub overflow_mul-result-2 : goal.overflow_mul-result-2
overflow_mul-result-2 c = let a = c.args in let p = c.requires in record { fits = factored_fits a.factor a.size a.weight a.weights p.size_bound p.factor_bound p.weight_bound }
