-- One of some texts, handed over as references or as their bytes; k is its place among them. Assumes nothing.
use mathlib.Core.Path.{◌≡◌, sym, ap, ◌∙◌}
use mathlib.Core.List.{List, [], map}
use Prim.Native.Nat.{ℕ}
use denote.Ref.{Bor}
use lib.ListN.{get_or, get_or-map}

pub text_at_lem : (texts : List (Bor (List ℕ))) (k : ℕ) (other : Bor (List ℕ)) → other.now ≡ []
    → (get_or texts k other).now ≡ get_or (map (λ x. x.now) texts) k []
text_at_lem texts k other e = sym (get_or-map (λ x. x.now) texts k other) ∙ ap (get_or (map (λ x. x.now) texts) k) e
