use Rattle.std.proofs.Common.{ℕ, Err, ap, ◌∙◌, subst}
use Rattle.std.proofs.lemmas.Result.{err_from_is_err_and}
use Rattle.book.specs.Views.{pair_of}
use Rattle.console.specs.Desks.{Desk}
use Rattle.console.specs.Checks.{recall_books}
use Rattle.console.specs.Looking.{shown, Looks, Recalls, shown_bytes, Fetches, RecallFetches}
use Rattle.console.proofs.LawsOfShowing.{recall_law}
use Rattle.console.proofs.Calling.{refused_by, made_by, fetched_none}
use Rattle.console.proofs.console.Console.recall.Goals as goal

pub returns-in_err-spot : goal.returns-in_err-spot
unfolding Recalls RecallFetches
returns-in_err-spot g c =
    let p = err_from_is_err_and c.from_residual.result c.from_residual.ensures.1 in
    record {
      recalls = refused_by (λ o. recall_books o c.args.position) _ c.args.self.now _ c.args.position c.in_err-spot.field-0.0 c.from_residual.result
          (ap (λ (d : Desk). d.books) c.self.view_is) c.in_err-spot.ensures (p.1 ∙ ap Err p.2);
      counts = fetched_none (λ o. recall_books o c.args.position) _ c.args.self.now _ c.args.position c.in_err-spot.field-0.0 c.args.fetched.now.bytes
          (ap (λ (d : Desk). d.books) c.self.view_is) c.in_err-spot.ensures;
      law = recall_law;
    }

pub returns : goal.returns
unfolding Recalls RecallFetches
returns g c =
    let s = c.in_ok-spot.spot in
    record {
      recalls = made_by (λ o. recall_books o c.args.position) _ _ c.args.self.now _ c.args.position s (ap (λ (d : Desk). d.books) c.self.view_is) c.in_ok-spot.ensures
          (λ at. subst (λ (q : ℕ). Looks c.args.self.now c.args.position (shown (pair_of s.books) q) c.look.result c.look.new.self) at c.look.ensures.looks);
      counts = made_by (λ o. recall_books o c.args.position) _ _ c.args.self.now _ c.args.position s (ap (λ (d : Desk). d.books) c.self.view_is) c.in_ok-spot.ensures
          (λ at. subst (λ (q : ℕ). Fetches c.args.self.now (shown_bytes (pair_of s.books) q) c.args.fetched.now.bytes c.look.new.fetched.bytes) at c.look.ensures.counts);
      law = recall_law;
    }
