use Rattle.std.proofs.Common.{inl, inr}
use Rattle.bz_script.specs.ItemLaws.{scripts_are_jobs}
use Rattle.bz_script.specs.Script.{job_of}
use Rattle.bz_top.proofs.AnswerLemmas.{bytes_answered}
use Rattle.bz_top.proofs.BaseLemmas.{base_of_script, refused_bytes}
use Rattle.bz_top.proofs.answer.run_bytes.Goals as goal

pub answer_script-requires-clause-script : goal.answer_script-requires-clause-script
answer_script-requires-clause-script g c = scripts_are_jobs _ c.args.bytes.now _ c.in-Ok.ensures

pub answer_script-requires-clause-base : goal.answer_script-requires-clause-base
answer_script-requires-clause-base g c = base_of_script c.args.line.marks c.args.base c.args.bytes.now (job_of c.in-Ok.script) c.requires.base (rw c.numbers_of.ensures at c.in-Ok.ensures)

pub returns-in-Ok : goal.returns-in-Ok
returns-in-Ok g c = bytes_answered _ _ _ _ _ _ (rw c.numbers_of.ensures at c.in-Ok.ensures) c.answer_script.ensures

pub returns-in-Err-Rule : goal.returns-in-Err-Rule
returns-in-Err-Rule g c =
    inr (inl (refused_bytes c.args.base c.args.bytes.now _ _ _ _ _ c.in-Err-Rule.line _ c.in-Err-Rule.rule _ (cc c.in-Err-Rule.line-is) (cc c.in-Err-Rule.rule-is) c.in-Err-Rule.field-0-is c.numbers_of.ensures c.in-Err-Rule.ensures c.report_broken.ensures.lab c.report_broken.ensures.wrote))
