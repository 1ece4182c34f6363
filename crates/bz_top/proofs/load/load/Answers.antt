use Rattle.std.proofs.Common.{inl, ap, Err}
use Rattle.std.specs.Prelude.{Some}
use Rattle.bz_top.proofs.BaseLemmas.{fetched_config, fetched_words}
use Rattle.bz_top.proofs.AnswerLemmas.{answered_source}
use Rattle.bz_top.proofs.EndLemmas.{ended_read, ended_early}
use Rattle.bz_top.proofs.LoadLemmas.{load_reads_over, load_reading, ended-fetch, ended-misshapen}
use Rattle.bz_top.proofs.load.load.Goals as goal

pub returns-in-Err-Read : goal.returns-in-Err-Read
returns-in-Err-Read g c words command =
    ended_read _ _ _ (load_reading words c.args.line command c.requires.command) (c.in-Err-Read.ensures.failed (ap Err c.in-Err-Read.field-0-is)) c.refuse.ensures.lab c.refuse.ensures.wrote

pub returns-in-Err-Image : goal.returns-in-Err-Image
returns-in-Err-Image g c words command =
    ended-fetch _ _ _ c.args.line command c.requires.command c.refuse_image.ensures.lab c.in-Err-Image.fault _ (cc c.in-Err-Image.fault-is) (c.in-Err-Image.ensures.fault c.in-Err-Image.fault (ap Err c.in-Err-Image.field-0-is)) c.refuse_image.ensures.memory
    c.refuse_image.ensures.wrote

pub check-requires : goal.check-requires
check-requires g c =
    let config = fetched_config c.args.line.marks c.in-Ok.image c.requires.marks.0 c.requires.marks.1 c.in-Ok.ensures.sized in
    rw (c.config_for-config.ensures, c.words.ensures) (record { config = config; whole = fetched_words c.args.line.marks c.in-Ok.image c.in-Ok.ensures.sized })

pub run_source-requires-clause-base : goal.run_source-requires-clause-base
run_source-requires-clause-base g c =
    record {
      config = fetched_config c.args.line.marks c.in-Ok.image c.requires.marks.0 c.requires.marks.1 c.in-Ok.ensures.sized;
      size = fetched_words c.args.line.marks c.in-Ok.image c.in-Ok.ensures.sized;
      none = rw (c.config_for-config.ensures, c.words.ensures) at c.in-Ok-check.ensures.shape.none;
    }

pub returns-in-Ok-check : goal.returns-in-Ok-check
returns-in-Ok-check g c words command =
    answered_source _ c.args.line command (Some c.in-Ok.image) (load_reads_over c.args.line.command c.in-Ok.image c.requires.command)
    (record {
      config = fetched_config c.args.line.marks c.in-Ok.image c.requires.marks.0 c.requires.marks.1 c.in-Ok.ensures.sized;
      size = fetched_words c.args.line.marks c.in-Ok.image c.in-Ok.ensures.sized;
      none = rw (c.config_for-config.ensures, c.words.ensures) at c.in-Ok-check.ensures.shape.none;
    }) c.requires.marks _ _ c.in-Ok.ensures.image c.in-Ok.ensures.later _ c.run_source.ensures

pub returns-in-Err-Shape : goal.returns-in-Err-Shape
returns-in-Err-Shape g c words command =
    ended-misshapen _ _ _ c.args.line command c.requires.command c.refuse_shape.ensures.lab c.in-Ok.image c.in-Ok.ensures.sized c.in-Ok.ensures.image _ _ _ c.in-Err-Shape.fault _ (cc c.in-Err-Shape.fault-is) c.in-Err-Shape.field-0-is
    c.config_for-config.ensures c.words.ensures c.in-Err-Shape.ensures.fault c.refuse_shape.ensures.wrote

pub returns : goal.returns
returns g c words command = ended_early _ _ _ (inl (load_reading words c.args.line command c.requires.command)) c.no_memory.ensures.lab c.no_memory.ensures.wrote
