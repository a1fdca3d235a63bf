use Rattle.text.proofs.PlainLaws.{running_mul, running_add, running_more}
use Rattle.text.proofs.digits_run.Goals as goal

pub overflow_mul-value : goal.overflow_mul-value
overflow_mul-value c = search running_mul

pub overflow_add-value : goal.overflow_add-value
overflow_add-value c = search running_add

pub loop-i-preserved : goal.loop-i-preserved
loop-i-preserved c = search running_more
