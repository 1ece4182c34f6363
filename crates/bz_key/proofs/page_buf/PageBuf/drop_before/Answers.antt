use Rattle.std.proofs.Common.{rules, Bool}
use Rattle.std.specs.Cmp.Lexicographic.{slice_cmp}
use Rattle.std.specs.Ordering.{nat_cmp, is_ge}
use Rattle.std.proofs.lemmas.Fn.{filter_same}
use Rattle.bz_key.specs.declared.key.Key.{Key}
use Rattle.bz_key.specs.declared.payload.Payload.{Payload}
use Rattle.bz_key.proofs.page_buf.PageBuf.drop_before.Goals as goal

pub returns : goal.returns
returns c =
    let is_from : Key × Payload → Bool = λ pair. is_ge (slice_cmp nat_cmp pair.0 c.args.key.now) in
    rw (← c.self.view_is) (filter_same {X = Key × Payload} _ is_from _ (λ x b f' k. search rules) _ _ c.retain.ensures.filtered)
