-- `rank_of` counts the numbers below x at the front.
use Rattle.std.proofs.Common.{ℕ, suc, Bool, true, false, cond, ltb, List, [], ◌∷◌, length, ◌≡◌, refl, ap, ◌∙◌, arith, rules, tests}
use Rattle.std.specs.List.{take_while}
use Rattle.std.proofs.lemmas.List.Sums.{take_while-cons}
use Rattle.std.proofs.lemmas.Iterator.{YieldsList-from_slice}
use Rattle.std.proofs.lemmas.Iterator.Search.{YieldsList-from_take_while}
use Rattle.std.proofs.lemmas.Iterator.Consumers.{count_from_yields_List}
use Rattle.order.specs.Buffer.{rank, Ranked}
use Rattle.order.specs.BufferLaws.{rank-le}
use Rattle.order.proofs.rank_of.Goals as goal

rank-counted : (x : ℕ) (l : List ℕ) → length (take_while (λ y. ltb y x) l) ≡ rank x l
unfolding rank
rank-counted x [] = refl
rank-counted x (y ∷ ys) = ap length (take_while-cons (λ z. ltb z x) y ys) ∙ go (ltb y x) (rank-counted x ys)
  where
    go : (t : Bool) → length (take_while (λ z. ltb z x) ys) ≡ rank x ys → length (cond t (y ∷ take_while (λ z. ltb z x) ys) []) ≡ cond t (suc (rank x ys)) 0
    go true h = ap suc h
    go false h = refl

ranked : (x : ℕ) (l : List ℕ) (r : ℕ) → r ≡ length (take_while (λ y. ltb y x) l) → Ranked x l r
ranked x l r e = let q = e ∙ rank-counted x l in record { is = q; within = omega (arith, rank-le x l) }

pub returns : goal.returns
returns c = ranked _ _ _ (count_from_yields_List _ _ c.count.ensures.ran (YieldsList-from_take_while _ (λ y. ltb y c.args.x) (YieldsList-from_slice c.args.list.now cc) c.take_while.ensures.closure c.take_while.ensures.done (λ x b q k. search (rules, tests))))
