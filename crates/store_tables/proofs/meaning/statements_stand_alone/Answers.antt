use Rattle.store_tables.proofs.Texts.{decide_plain, count_plain, next_plain, base_plain, base_run_plain, discard_plain, record_plain, value_plain, value_run_plain}
use Rattle.store_tables.proofs.Texts.{delta_plain, forget_plain}
use Rattle.store_tables.proofs.meaning.statements_stand_alone.Goals as goal

pub returns-clause-decide : goal.returns-clause-decide
returns-clause-decide c = decide_plain

pub returns-clause-count : goal.returns-clause-count
returns-clause-count c = count_plain

pub returns-clause-next_top : goal.returns-clause-next_top
returns-clause-next_top c = next_plain

pub returns-clause-base : goal.returns-clause-base
returns-clause-base c = base_plain

pub returns-clause-base_run : goal.returns-clause-base_run
returns-clause-base_run c = base_run_plain

pub returns-clause-discard : goal.returns-clause-discard
returns-clause-discard c = discard_plain

pub returns-clause-home : goal.returns-clause-home
returns-clause-home c = record_plain

pub returns-clause-value : goal.returns-clause-value
returns-clause-value c = value_plain

pub returns-clause-value_run : goal.returns-clause-value_run
returns-clause-value_run c = value_run_plain

pub returns-clause-delta : goal.returns-clause-delta
returns-clause-delta c = delta_plain

pub returns-clause-forget : goal.returns-clause-forget
returns-clause-forget c = forget_plain
