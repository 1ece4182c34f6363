use Rattle.std.proofs.Common.{◌≡◌, rules}
use Rattle.std.proofs.lemmas.List.Sorted.{IsNonDecreasingBy-from_sort_by_key, answers_always}
use Rattle.bz_qtext.specs.Report.{rank}
use Rattle.bz_text.proofs.SortLemmas.{stable_is_sorted}
use Rattle.bz_qtext.proofs.order.sort_calls.Goals as goal

pub returns : goal.returns
returns c = stable_is_sorted rank c.args.calls.now.items c.sort_by_key.new.self.items (IsNonDecreasingBy-from_sort_by_key rank _ c.in_ok-sort_by_key.ensures.sorted (λ a r q k. search rules)) (c.in_ok-sort_by_key.ensures.stable rank (answers_always _ (λ a r. r ≡ rank a.0.now) _ (λ f a r q k. search rules)))
