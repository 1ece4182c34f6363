use Rattle.bz_crown.specs.Duties.{crown_of}
use Rattle.bz_crown.proofs.Acting.{effect, flushed, stored, took}
use Rattle.bz_crown.proofs.split_inner_root.SplitInnerRootTask.acted.Goals as goal

pub returns : goal.returns
returns c = let t = c.args.self.now in record {
  effect = λ s y entries same f good e stand swaps. effect t.config (crown_of t) t.phase s y entries same f good e stand swaps;
  took = λ s after entries same f good later e stand takes. took t.config (crown_of t) s after same t.phase entries f good e takes;
  stored = λ s after a v same f good later e made. stored t.config (crown_of t) s after same t.phase a v f e made;
  flushed = λ s after line same f good later e made. flushed t.config (crown_of t) s after same t.phase line f e made;
}
