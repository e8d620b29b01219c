-- `end_of` looks for the mark from its place on, and where there is none the part ends with the bytes.
use Rattle.std.proofs.Common.{ℕ, ◌+◌, ◌-◌, ◌<◌, ◌≤◌, ◌≡◌, Bool, true, false, cond, not, eqb, List, [], ◌∷◌, Some, None, length, take, drop, refl, sym, ◌∙◌, ⊎_elim, arith, rules, tests, length-drop, take_all, lt-ltb}
use Rattle.std.proofs.lemmas.Iterator.{YieldsList-from_slice}
use Rattle.std.proofs.lemmas.Iterator.Search.{position_from_yields_List}
use Rattle.std.proofs.lemmas.Option.{cond_some}
use Rattle.std.specs.List.{position, position_or_len}
use Rattle.order.specs.TestLaws.{lt-or-le}
use Rattle.line.specs.Fields.{front}
use Rattle.line.specs.Leaves.{Ends}
use Rattle.line.specs.SplitLaws.{front-le}
use Rattle.line.proofs.scan.end_of.Goals as goal

-- the first part of a list ends at its first mark
front-length : (mark : ℕ) (l : List ℕ) → length (front mark l) ≡ position_or_len (λ x. eqb x mark) l
unfolding front
front-length mark [] = refl
front-length mark (x ∷ l) = go (eqb x mark) (front-length mark l)
  where
    go : (t : Bool) → length (front mark l) ≡ position_or_len (λ y. eqb y mark) l → length (cond t [] (x ∷ front mark l)) ≡ cond (not t) (1 + position_or_len (λ y. eqb y mark) l) 0
    go true e = refl
    go false e = omega arith

module _ (mark : ℕ) (l : List ℕ) (at : ℕ) (h : at ≤ length l) where
  abbrev left : List ℕ
  left = take (length l - at) (drop at l)

  left-is : left ≡ drop at l
  left-is = take_all (length l - at) (drop at l) (omega (arith, length-drop at l))

  ends-some : (n : ℕ) → position (λ x. eqb x mark) left ≡ Some n → Ends mark l at (at + n)
  ends-some n e =
      let f = front-length mark (drop at l) in
      let w = cond_some _ _ n (rw left-is at e) in
      record { is = omega (arith, w.1); from = omega arith; within = omega (arith, w.1, front-le mark (drop at l), length-drop at l) }

  ends-none : position (λ x. eqb x mark) left ≡ None → Ends mark l at (length l)
  ends-none e =
      let f = front-length mark (drop at l) in
      let k = position_or_len (λ x. eqb x mark) (drop at l) in
      let d = rw left-is at e in
      let g : length (drop at l) ≤ k = ⊎_elim (λ (g : k < length (drop at l)). let w : Some k ≡ None = rw (lt-ltb k (length (drop at l)) g) at d in cc) (λ (g : length (drop at l) ≤ k). g) (lt-or-le k (length (drop at l))) in
      record { is = omega (arith, front-le mark (drop at l), length-drop at l); from = h; within = omega arith }

pub returns-in-Some : goal.returns-in-Some
returns-in-Some c =
    let found : c.position.result ≡ position (λ x. eqb x c.args.mark) (left c.args.mark c.args.bytes.now c.args.at c.requires) = position_from_yields_List (λ x. eqb x c.args.mark) _ _ c.position.result c.position.ensures.ran (YieldsList-from_slice _ c.iter.ensures.rest) (λ x b q k. search (rules, tests)) in
    ends-some c.args.mark c.args.bytes.now c.args.at c.requires c.in-Some.n (sym found ∙ c.in-Some.is)

pub returns-in-None : goal.returns-in-None
returns-in-None c =
    let found : c.position.result ≡ position (λ x. eqb x c.args.mark) (left c.args.mark c.args.bytes.now c.args.at c.requires) = position_from_yields_List (λ x. eqb x c.args.mark) _ _ c.position.result c.position.ensures.ran (YieldsList-from_slice _ c.iter.ensures.rest) (λ x b q k. search (rules, tests)) in
    ends-none c.args.mark c.args.bytes.now c.args.at c.requires (sym found ∙ c.in-None.is)
