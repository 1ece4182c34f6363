use Rattle.serde_json.proofs.Views.{view-Object}
use Rattle.bz_lines.proofs.mark_lines.end_fields.Goals as goal

pub returns : goal.returns
returns c = rw (
  view-Object c.put-5.new.map,
  c.in_ok-put-5.ensures.ok,
  c.in_ok-put-4.ensures.ok,
  c.in_ok-put-3.ensures.ok,
  c.in_ok-put-2.ensures.ok,
  c.in_ok-put.ensures.ok,
  c.new-map.ensures.empty,
  c.in_ok-kind.ensures,
  c.from.ensures,
  c.from-2.ensures,
  c.from-3.ensures,
)
