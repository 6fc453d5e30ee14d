-- A record follows: it is laid down on a line of its own, behind all that is there, and its list is begun. nx says who follows whom, `part`
-- where the content of a record lies, ct what it is; ls and fs are the two arrays, with a prime when the line is laid; a is the innermost
-- level of the path, r its parent, p the last child so far, s the one that follows it. q is a parent, n a number, x a fact. Assumes
-- nothing.
use mathlib.Core.Path.{◌≡◌, refl, sym, ap, ◌∙◌, subst}
use mathlib.Core.Logic.{◌⊎◌, inl, inr}
use mathlib.Core.List.Memᴰ
use mathlib.Core.List.Memᴰ.{head as here}
use mathlib.Core.List.Memᴰ.{tail as there}
use mathlib.Core.List.{List, [], ◌∷◌, ◌++◌, append_assoc}
use Prim.Native.Nat.{ℕ, zero, suc, ◌<◌, ◌≤◌, ◌+◌, ◌-◌}
use native.Mathlib.Omega.{arith}
use lib.ListN.{length, length-append, length-map}
use lib.Dec.{T}
use Rattle.std.specs.Prelude.{Option, None, Some}
use Rattle.rules.specs.Lists.{◌∈◌}
use Rattle.rules.specs.Marks.{TOP, START, END, is_record}
use Rattle.rules.specs.Text.{last}
use Rattle.rules.specs.Line.{Content, Row}
use Rattle.rules.specs.Table.{numbers}
use Rattle.rules.specs.Tree.{STEPS, Tree, child_numbers, numbers_in}
use Rattle.rules.specs.Facts.{PositionFact, list_facts, parent_given, parents_given, position}
use Rattle.rules.specs.Merge.{follower, walk}
use Rattle.rules.specs.declared.answers.Part.{Part}
use Rattle.trees.proofs.Lists.{last_among}
use Rattle.trees.proofs.Sets.{once_few}
use Rattle.trees.proofs.Marks.{record_low, record_high}
use Rattle.trees.proofs.Disagreeing.{given_in, number_of, one_before, one_parent}
use Rattle.trees.proofs.OneTable.{child_number, list_in_lem, number_row, row_child}
use Rattle.trees.proofs.LineByLine.{Open, children_more, line_fact, line_out, open_before, open_list, open_facts}
use Rattle.trees.proofs.Walk.{walk_some}
use Rattle.facts.specs.Memory.{ROOM, NUMBER, field, field_on, who, way}
use Rattle.facts.specs.Holds.{part_at}
use Rattle.facts.specs.Order.{numbers_to}
use Rattle.facts.proofs.Shown.{linked, list_end}
use Rattle.facts.proofs.OneMore.{childless, children_other, known_cases, not_new, number_cases, number_new, number_old, once_more}
use Rattle.facts.proofs.OneMore.{readable_more}
use Rattle.facts.proofs.Adding.{Added}
use Rattle.edits.proofs.Best.{AtMost}
use Rattle.merged.specs.Laying.{Steps}
use Rattle.merged.proofs.Path.{Begun, Broken, BrokenIn, Level, Spread, deeper, parents, step_on, to_come}

-- ---- lists

last_more : (p n : ℕ) (ns : List ℕ) → last p (ns ++ (n ∷ [])) ≡ n
last_more p n [] = refl
last_more p n (m ∷ ns) = last_more m n ns

-- one more laid is one less to come
one_laid : (n : ℕ) (laid below after rest : List ℕ)
    → (laid ++ (n ∷ [])) ++ (below ++ (after ++ rest)) ≡ laid ++ ((n ∷ (below ++ after)) ++ rest)
one_laid n [] below after rest = ap (λ (l : List ℕ). n ∷ l) (sym (append_assoc below after rest))
one_laid n (m ∷ laid) below after rest = ap (λ (l : List ℕ). m ∷ l) (one_laid n laid below after rest)

module _ {nx : ℕ → ℕ → ℕ} {part : ℕ → Part} {kept : List PositionFact} {known : List ℕ} {ct : ℕ → Content} {ls fs : List ℕ}
    {a : Level} {path : List Level} {p count : ℕ} {broken : Option ℕ} (st : Steps nx kept known)
    (g : Spread nx part kept known ct ls fs (a ∷ path) p count broken) where
  abbrev t : List Row
  t = g.rows

  abbrev r : ℕ
  r = a.parent

  abbrev s : ℕ
  s = nx r p

  -- ---- the list that is laid

  pub known_parent : a.parent ∈ TOP ∷ numbers g.rows
  known_parent = g.on_path r (here refl)

  pub last_child : p ≡ last START (child_numbers a.parent g.rows)
  last_child = g.begun.0

  last_known : (p ≡ START) ⊎ (p ∈ known)
  last_known =
      subst (λ (b : ℕ). (b ≡ START) ⊎ (b ∈ known)) (sym last_child)
      (last_among (λ b. (b ≡ START) ⊎ (b ∈ known)) START (child_numbers r t) (λ m k. inr (g.within m (child_number t r m k))) (inl refl))

  -- ---- a record follows

  module _ (record_s : T (is_record s)) where
    follower_known : s ∈ known
    follower_known = st.stays r p (up known_parent) last_known record_s
      where
        up : {q : ℕ} → q ∈ TOP ∷ numbers t → q ∈ TOP ∷ known
        up (here e) = here e
        up {q} (there m) = there (g.within q m)

    -- some fact puts it there
    abbrev fact : PositionFact
    fact = position r p s

    fact-kept : fact ∈ kept
    fact-kept = st.goes r p (record_low s record_s)

    gives : (q b : ℕ) → parent_given s q ∈ parents_given (position q b s)
    gives q b = given_in s (position q b s) record_s (inr refl)

    -- were it there already, then on the same place, where the list goes no further
    pub follower_new : nx a.parent p ∈ numbers g.rows → ⊥
    follower_new m =
        let w = number_row t s m in
        let q = w.0.parent in
        let b = open_before q START s (child_numbers q t) (Memᴰ.cast (sym w.2) (row_child t w.0 w.1)) in
        let e : nx q b.0 ≡ s = g.steps (position q b.0 s) b.1 in
        let k : position q b.0 s ∈ kept =
        Memᴰ.cast (ap (position q b.0) (sym e)) (st.goes q b.0 (subst (λ (z : ℕ). 0 < z) (sym e) (record_low s record_s))) in
        let agree = st.calm (position q b.0 s) fact k fact-kept in
        let parent : q ≡ r = one_parent (position q b.0 s) fact agree _ _ (gives q b.0) (gives r p) refl in
        shut parent (one_before (position q b.0 s) fact agree parent refl) b.1
      where
        holds-fact : (x : PositionFact) → x.parent ≡ r → x ∈ list_facts r START (child_numbers r t)
            → field ls fs (who r x.before) (way x.before) ≡ x.after
        holds-fact x e m =
            subst (λ (z : ℕ). field ls fs (who z x.before) (way x.before) ≡ x.after) e
            (linked ls fs t g.holds g.readable x (list_in_lem t r known_parent x m))

        shut : {q b : ℕ} → q ≡ r → b ≡ p → position q b s ∈ open_facts q START (child_numbers q t) → ⊥
        shut {q} {b} e d m =
            let here_too : fact ∈ open_facts r START (child_numbers r t) =
            subst (λ (z : ℕ). position r z s ∈ open_facts r START (child_numbers r t)) d
            (subst (λ (z : ℕ). position z b s ∈ open_facts z START (child_numbers z t)) e m) in
            let on = holds-fact fact refl (open_list r START (child_numbers r t) fact here_too) in
            let off : field ls fs (who r p) (way p) ≡ END =
            subst (λ (z : ℕ). field ls fs (who r z) (way z) ≡ END) (sym last_child)
            (holds-fact (position r (last START (child_numbers r t)) END) refl (list_end r START (child_numbers r t))) in
            omega (arith, record_high s record_s)

    abbrev pub row : Row
    row = record { number = nx a.parent p; parent = a.parent; content = ct (nx a.parent p) }

    abbrev t' : List Row
    t' = t ++ (row ∷ [])

    pub room : count + 1 < ROOM
    room =
        let enough =
        once_few (numbers t') known (once_more t row g.readable record_s follower_new) (λ n m. sub n (number_cases t row n m)) in
        omega (arith, length-map t' number_of, length-append t (row ∷ []), g.size, st.few)
      where
        sub : (n : ℕ) → (n ∈ numbers t) ⊎ (n ≡ s) → n ∈ known
        sub n (inl m) = g.within n m
        sub n (inr e) = Memᴰ.cast e follower_known

    -- ---- its line is laid

    abbrev left : ℕ
    left = a.left - 1

    -- the path with the list of s
    abbrev path' : List Level
    path' = deeper s a path

    -- the walk has a step for it
    a_step : a.left ≡ suc left
    a_step = omega (arith, g.begun.1, room)

    module _ {ls' fs' : List ℕ} (w : Added ls fs ls' fs' t row (part s).start (part s).length) where
      split : (q : ℕ) → q ∈ TOP ∷ numbers t' → (q ∈ TOP ∷ numbers t) ⊎ (q ≡ s)
      split = known_cases t row

      not-s : (q : ℕ) → q ∈ TOP ∷ numbers t → q ≡ s → ⊥
      not-s = not_new t row g.readable record_s follower_new

      stay : (q : ℕ) → q ∈ TOP ∷ numbers t → q ∈ TOP ∷ numbers t'
      stay q (here e) = here e
      stay q (there k) = there (number_old t row q k)

      -- other lists end as they did
      end_same : (q : ℕ) → (q ≡ r → ⊥) → nx q (last START (child_numbers q t')) ≡ nx q (last START (child_numbers q t))
      end_same q h = ap (λ (ns : List ℕ). nx q (last START ns)) (children_other t row q h)

      -- ---- the path

      begun_same : (b : ℕ) (up : List Level) → (r ∈ parents up → ⊥) → Begun t count b up → Begun t' (count + 1) b up
      begun_same b [] h d = tt
      begun_same b (c ∷ up) h d = (
        d.0 ∙ sym (ap (last START) (children_other t row c.parent (λ e. h (here (sym e))))),
        omega (arith, d.1),
        begun_same c.parent up (λ m. h (there m)) d.2,
      )

      begun : Begun t' (count + 1) START path'
      begun = (
        sym (ap (last START) (childless t row g.readable record_s follower_new known_parent)),
        omega (arith, g.begun.1, a_step),
        (
          sym (ap (last START) (children_more t row) ∙ last_more START s (child_numbers r t)),
          omega (arith, g.begun.1, a_step),
          begun_same r path g.once.0 g.begun.2,
        ),
      )

      on_path : (q : ℕ) → q ∈ parents path' → q ∈ TOP ∷ numbers t'
      on_path q (here e) = there (number_new t row q e)
      on_path q (there m) = stay q (g.on_path q m)

      -- ---- the order

      lines_same : (l : ℕ) → l ≤ length t → numbers_to fs' l ≡ numbers_to fs l
      lines_same zero h = refl
      lines_same (suc l) h = λ i. lines_same l (omega arith) i ++ (w.numbers-same (suc l) h i ∷ [])

      line_number : field_on fs' (suc count) NUMBER ≡ s
      line_number =
          let e : suc count ≡ length t + 1 = omega (arith, g.size) in
          ap (λ (l : ℕ). field_on fs' l NUMBER) (e ∙ sym w.line_new) ∙ w.holds.named s (there (number_new t row s refl))

      laid : numbers_to fs' (count + 1) ≡ numbers_to fs count ++ (s ∷ [])
      laid =
          let e : count + 1 ≡ suc count = omega arith in
          ap (numbers_to fs') e ∙ (λ i. lines_same count (omega (arith, g.size)) i ++ (line_number i ∷ []))

      abbrev walked : ℕ → ℕ → ℕ → Tree
      walked = walk (follower kept) ct

      reached : numbers_in (walked a.left r p) ≡ s ∷ (numbers_in (walked left s START) ++ numbers_in (walked left r s))
      reached =
          ap (λ (k : ℕ). numbers_in (walked k r p)) a_step
          ∙ ap numbers_in (walk_some (follower kept) ct left r p s (step_on st r p record_s))

      order : numbers_to fs' (count + 1) ++ to_come walked START path' ≡ numbers_in (walked STEPS TOP START)
      order =
          ap (λ (l : List ℕ). l ++ to_come walked START path') laid
          ∙ one_laid s (numbers_to fs count) (numbers_in (walked left s START)) (numbers_in (walked left r s)) (to_come walked r path)
          ∙ ap (λ (l : List ℕ). numbers_to fs count ++ (l ++ to_come walked r path)) (sym reached) ∙ g.order

      pub spread_on : Spread nx part kept known ct ls' fs' (deeper (nx a.parent p) a path) START (count + 1) broken
      unfolding line_fact
      spread_on =
          record {
            rows = t';
            holds = w.holds;
            readable = readable_more t row g.readable record_s follower_new known_parent;
            size = omega (arith, length-append t (row ∷ []), g.size);
            steps = λ x m. step x (line_out t row x m);
            begun = begun;
            once = ((λ m. not-s s (g.on_path s m) refl), g.once);
            on_path = on_path;
            done = λ q k. done q (split q k);
            order = order;
            filled = λ x m. filled x (Memᴰ.append_cases t m);
            placed = λ n m. placed n (number_cases t row n m);
            within = λ n m. within n (number_cases t row n m);
            some_broken = some_broken broken g.some_broken;
            least_broken = λ q k. least_broken q (split q k);
          }
        where
          step : (x : PositionFact) → Open t x ⊎ (x ≡ line_fact t row) → nx x.parent x.before ≡ x.after
          step x (inl m) = g.steps x m
          step x (inr e) = (λ j. nx (e j).parent (e j).before) ∙ ap (nx r) (sym last_child) ∙ (λ j. (sym e j).after)

          done : (q : ℕ) → (q ∈ TOP ∷ numbers t) ⊎ (q ≡ s) → (q ∈ parents path' → ⊥)
              → T (is_record (nx q (last START (child_numbers q t')))) → ⊥
          done q (inr e) h m = h (here e)
          done q (inl k) h m =
              g.done q k (λ i. h (there i)) (subst (λ (z : ℕ). T (is_record z)) (end_same q (λ e. h (there (here e)))) m)

          filled : (x : Row) → (x ∈ t) ⊎ (x ∈ row ∷ []) → x.content ≡ ct x.number
          filled x (inl m) = g.filled x m
          filled x (inr m) =
              let e = Memᴰ.eq_of_singleton m in ap (λ (z : Row). z.content) e ∙ ap (λ (z : Row). ct z.number) (sym e)

          placed : (n : ℕ) → (n ∈ numbers t) ⊎ (n ≡ s) → part_at ls' fs' n ≡ part n
          placed n (inl m) = w.part_same n m ∙ g.placed n m
          placed n (inr e) = subst (λ (z : ℕ). part_at ls' fs' z ≡ part z) (sym e) w.part_new

          within : (n : ℕ) → (n ∈ numbers t) ⊎ (n ≡ s) → n ∈ known
          within n (inl m) = g.within n m
          within n (inr e) = Memᴰ.cast e follower_known

          off_path : (q : ℕ) → q ∈ TOP ∷ numbers t → (q ∈ parents (a ∷ path) → ⊥) → q ∈ parents path' → ⊥
          off_path q k h (here e) = not-s q k e
          off_path q k h (there m) = h m

          some_broken : (b : Option ℕ) → BrokenIn nx t (a ∷ path) b → BrokenIn nx t' path' b
          some_broken None v = tt
          some_broken (Some q) v = (stay q v.0, off_path q v.0 v.1, λ e. v.2 (sym (end_same q (λ d. v.1 (here d))) ∙ e))

          least_broken : (q : ℕ) → (q ∈ TOP ∷ numbers t) ⊎ (q ≡ s) → (q ∈ parents path' → ⊥) → Broken nx t' q → AtMost broken q
          least_broken q (inr e) h m = absurd (h (here e))
          least_broken q (inl k) h m = g.least_broken q k (λ i. h (there i)) (λ e. m (end_same q (λ d. h (there (here d))) ∙ e))
