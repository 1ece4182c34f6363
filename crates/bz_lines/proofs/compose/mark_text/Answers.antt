use Rattle.std.proofs.Common.{ap, ◌∙◌}
use Rattle.serde_json.specs.Written.{has_float}
use Rattle.bz_lines.proofs.FloatLemmas.{mark_whole}
use Rattle.bz_lines.proofs.compose.mark_text.Goals as goal

pub plain_text-requires : goal.plain_text-requires
plain_text-requires c = ap has_float c.in_ok-object.ensures ∙ mark_whole c.args.journal.now.pages c.args.mark
