use Rattle.std.proofs.Common.{◌≡◌, ℕ, Bool, true, false, not, ◌&&◌, eqb, sym, ap, ◌∙◌}
use Rattle.std.proofs.lemmas.Bool.{eq-eqb, ne_eqb}
use Rattle.part.specs.Meaning.{Meaning, cell}
use Rattle.book.specs.Pages.{blank, readable_book}
use Rattle.book.specs.Pairs.{book_size}
use Rattle.book.specs.Finding.{in_use}
use Rattle.book.proofs.Surveying.{found_first, found_second, found_alike, both_alike, other_way}
use Rattle.book.proofs.books.Books.survey.Goals as goal

pub returns-then-one-two : goal.returns-then-one-two
returns-then-one-two g c =
    let m = g.P.Part.means c.args.part.now in
    let same = c.see-two.ensures.same ∙ c.see-one.ensures.same in
    let w = book_size c.args.self.positions in
    let heads : in_use m.cells c.args.self.current.start ≡ in_use m.cells c.args.self.spare.start =
    ap (λ (x : ℕ). eqb x 0) (sym c.see-one.ensures.answer) ∙ both_alike _ _ c.if-one-two.true
    ∙ ap (λ (x : ℕ). eqb x 0) (c.see-two.ensures.answer ∙ ap (λ (x : Meaning). cell x c.args.self.spare.start) c.see-one.ensures.same) in
    let one : blank m.cells c.args.self.current.start w ≡ c.is_blank.result =
    ap (λ (x : Meaning). blank x.cells c.args.self.current.start w) (sym same)
    ∙ sym (c.is_blank.ensures.answer ∙ ap (blank (g.P.Part.means c.see-two.new.part).cells c.args.self.current.start) c.book_size-width.ensures) in
    let two : blank m.cells c.args.self.spare.start w ≡ c.is_blank-then-one-two.result =
    ap (λ (x : Meaning). blank x.cells c.args.self.spare.start w) (sym (c.is_blank.ensures.same ∙ same))
    ∙ sym (c.is_blank-then-one-two.ensures.answer ∙ ap (blank (g.P.Part.means c.is_blank.new.part).cells c.args.self.spare.start) c.book_size-width.ensures) in
    record {
      answer =
          c.only_if.ensures
          ∙ sym (found_alike m.cells c.args.self.current.start c.args.self.spare.start c.args.self.positions (c.is_blank.result && c.is_blank-then-one-two.result) heads
          (ap (λ (b : Bool). b && blank m.cells c.args.self.spare.start w) one ∙ ap (λ (b : Bool). c.is_blank.result && b) two));
      same = c.is_blank-then-one-two.ensures.same ∙ c.is_blank.ensures.same ∙ same;
    }

pub returns-then-one : goal.returns-then-one
returns-then-one g c =
    let m = g.P.Part.means c.args.part.now in
    let same = c.see-two.ensures.same ∙ c.see-one.ensures.same in
    let one : eqb c.see-one.result 0 ≡ true = eq-eqb _ _ c.if-one.true in
    let two : eqb c.see-two.result 0 ≡ false = other_way _ _ c.if-one-two.false ∙ ap not one in
    record {
      answer =
          c.only_if-then-one.ensures
          ∙ sym (found_first m.cells c.args.self.current.start c.args.self.spare.start c.args.self.positions c.is_readable_book.result
          (ap (λ (x : ℕ). eqb x 0) (sym c.see-one.ensures.answer) ∙ one)
          (ap (λ (x : ℕ). eqb x 0) (sym (c.see-two.ensures.answer ∙ ap (λ (x : Meaning). cell x c.args.self.spare.start) c.see-one.ensures.same)) ∙ two)
          (ap (λ (x : Meaning). readable_book x.cells c.args.self.current.start c.args.self.positions) (sym same) ∙ sym c.is_readable_book.ensures.answer));
      same = c.is_readable_book.ensures.same ∙ same;
    }

pub returns-else-one : goal.returns-else-one
returns-else-one g c =
    let m = g.P.Part.means c.args.part.now in
    let same = c.see-two.ensures.same ∙ c.see-one.ensures.same in
    let one : eqb c.see-one.result 0 ≡ false = ne_eqb _ _ c.if-one.false in
    let two : eqb c.see-two.result 0 ≡ true = other_way _ _ c.if-one-two.false ∙ ap not one in
    record {
      answer =
          c.only_if-else-one.ensures
          ∙ sym (found_second m.cells c.args.self.current.start c.args.self.spare.start c.args.self.positions c.is_readable_book-else-one.result
          (ap (λ (x : ℕ). eqb x 0) (sym (c.see-two.ensures.answer ∙ ap (λ (x : Meaning). cell x c.args.self.spare.start) c.see-one.ensures.same)) ∙ two)
          (ap (λ (x : ℕ). eqb x 0) (sym c.see-one.ensures.answer) ∙ one)
          (ap (λ (x : Meaning). readable_book x.cells c.args.self.spare.start c.args.self.positions) (sym same) ∙ sym c.is_readable_book-else-one.ensures.answer));
      same = c.is_readable_book-else-one.ensures.same ∙ same;
    }
