use Rattle.std.proofs.Common.{◌∙◌, sym, reverse}
use Rattle.std.proofs.lemmas.List.{length-reverse}
use Rattle.bz_test_layers.specs.declared.tests.bus.book.Line.{Line}
use Rattle.bz_test_layers.specs.declared.tests.bus.book.Told.{Told}
use Rattle.bz_test_layers.proofs.Books.{length-told}
use Rattle.bz_test_layers.proofs.tests.bus.book.BookChronicle.length.Goals as goal

pub returns : goal.returns
returns c = let book = c.args.self.now in
    c.len.ensures ∙ (book.lines.ok.0 ∙ sym (length-told {L = Line} {E = Told} (λ line. line.paged) (λ line page. record { by = line.by; page = page }) (reverse book.lines.items) (reverse book.pages.items) ∙ length-reverse book.lines.items))
