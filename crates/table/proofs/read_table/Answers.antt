use Rattle.table.proofs.Steps.{steps}
use Rattle.table.proofs.read_table.Goals as goal

pub overflow_add-result : goal.overflow_add-result
overflow_add-result c = search steps

pub overflow_cast-result : goal.overflow_cast-result
overflow_cast-result c = search steps
