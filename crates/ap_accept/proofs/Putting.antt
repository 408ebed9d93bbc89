-- What is written is read again: one value after another, and lists.
use Rattle.std.proofs.Common.{◌≡◌, ℕ, zero, suc, ◌-◌, ◌<◌, ◌≤◌, length, get_or, drop, drop-cons, List, [], ◌∷◌, ◌++◌, Option, Some, Result, Ok, Err, IfOk, OnOk, refl, sym, ap, subst, ◌∙◌, append_assoc, arith}
use Rattle.std.proofs.lemmas.List.{append-nil}
use Rattle.cred_files.specs.Form.{◌>>=◌, part, several}
use Rattle.cred_files.specs.FormLaws.{part_again}
use Rattle.ap_accept.specs.Saved.{Reading, both, list, made, octets, word, Puts}

-- with the clause of the last call
pub on_ok : {A B : Type 0} {P Q : Type 0} (r : Result A B) → (P → Q) → OnOk r P → OnOk r Q
on_ok (Ok x) f p = f p
on_ok (Err x) f p = tt

pub if_ok : {A B : Type 0} {P Q : A → Type 0} (r : Result A B) → ((x : A) → P x → Q x) → IfOk r P → IfOk r Q
if_ok (Ok x) f p = f x p
if_ok (Err x) f p = tt

abbrev found : {A : Type 0} → A → List ℕ → Option (A × List ℕ)
found x rest = Some (x, rest)

pub both_puts : {A B : Type 0} (f : Reading A) (g : Reading B) (x : A) (y : B) (a b c : List ℕ)
    → Puts f x a b → Puts g y b c → Puts (both f g) (x, y) a c
both_puts {A} {B} f g x y a b c p q = record {
  text = p.text ++ q.text;
  is = q.is ∙ ap (λ (l : List ℕ). l ++ q.text) p.is ∙ append_assoc a p.text q.text;
  again = λ rest.
      ap (both f g) (append_assoc p.text q.text rest)
      ∙ ap (λ (o : Option (A × List ℕ)). o >>= λ v. g v.1 >>= λ w. found (v.0, w.0) w.1) (p.again (q.text ++ rest))
      ∙ ap (λ (o : Option (B × List ℕ)). o >>= λ w. found (x, w.0) w.1) (q.again rest);
}

pub made_puts : {A B : Type 0} (to : A → B) (f : Reading A) (x : A) (a b : List ℕ) → Puts f x a b → Puts (made to f) (to x) a b
made_puts {A} {B} to f x a b p = record {
  text = p.text;
  is = p.is;
  again = λ rest. ap (λ (o : Option (A × List ℕ)). o >>= λ v. found (to v.0) v.1) (p.again rest);
}

pub octets_puts : (s x a b c : List ℕ) → s ≡ x → Puts word (length s) a b → c ≡ b ++ s → Puts octets x a c
octets_puts s x a b c same p is = subst (λ (y : List ℕ). Puts octets y a c) same (record {
  text = p.text ++ s;
  is = is ∙ ap (λ (l : List ℕ). l ++ s) p.is ∙ append_assoc a p.text s;
  again = λ rest.
      ap octets (append_assoc p.text s rest)
      ∙ ap (λ (o : Option (ℕ × List ℕ)). o >>= λ n. part n.0 n.1) (p.again (s ++ rest))
      ∙ part_again (length s) s rest refl;
})

pub list_puts : {A : Type 0} (at : Reading A) (xs : List A) (a b c : List ℕ)
    → Puts word (length xs) a b → Puts (several at (length xs)) xs b c → Puts (list at) xs a c
list_puts at xs a b c p q = record {
  text = p.text ++ q.text;
  is = q.is ∙ ap (λ (l : List ℕ). l ++ q.text) p.is ∙ append_assoc a p.text q.text;
  again = λ rest.
      ap (list at) (append_assoc p.text q.text rest)
      ∙ ap (λ (o : Option (ℕ × List ℕ)). o >>= λ n. several at n.0 n.1) (p.again (q.text ++ rest))
      ∙ q.again rest;
}

-- ---- values in a loop

-- of a list the first i values are written: with the others, it is read
pub record PutsFront {A : Type 0} (at : Reading A) (xs : List A) (i : ℕ) (old new : List ℕ) : Type 0 where
  pub text : List ℕ
  pub is : new ≡ old ++ text
  pub again : (middle rest : List ℕ) → several at (length xs - i) middle ≡ Some (drop i xs, rest)
      → several at (length xs) (text ++ middle) ≡ Some (xs, rest)

pub none_put : {A : Type 0} (at : Reading A) (xs : List A) (old : List ℕ) → PutsFront at xs 0 old old
none_put {A} at xs old =
    let whole : length xs - 0 ≡ length xs = omega arith in
    record { text = []; is = sym (append-nil old); again = λ middle rest e. subst (λ (n : ℕ). several at n middle ≡ Some (xs, rest)) whole e }

pub drop_all : {A : Type 0} (xs : List A) (i : ℕ) → length xs ≤ i → drop i xs ≡ []
drop_all [] zero le = refl
drop_all [] (suc i) le = refl
drop_all (x ∷ xs) zero le = absurd (omega arith)
drop_all (x ∷ xs) (suc i) le = drop_all xs i (omega arith)

pub one_put : {A : Type 0} (at : Reading A) (xs : List A) (i j : ℕ) (x : A) (old out new : List ℕ)
    → j ≡ suc i → x ≡ get_or xs i x → i < length xs → Puts at x out new → PutsFront at xs i old out → PutsFront at xs j old new
unfolding several
one_put {A} at xs i j x old out new next is lt p so_far = subst (λ (k : ℕ). PutsFront at xs k old new) (sym next) (record {
  text = so_far.text ++ p.text;
  is = p.is ∙ ap (λ (l : List ℕ). l ++ p.text) so_far.is ∙ append_assoc old so_far.text p.text;
  again = λ middle rest e.
      let here : drop i xs ≡ x ∷ drop (suc i) xs = rw (drop-cons xs i x) (ap (λ (y : A). y ∷ drop (suc i) xs) (sym is)) in
      let more : length xs - i ≡ suc (length xs - suc i) = omega arith in
      let read : several at (suc (length xs - suc i)) (p.text ++ middle) ≡ Some (x ∷ drop (suc i) xs, rest) =
      ap (λ (o : Option (A × List ℕ)). o >>= λ v. several at (length xs - suc i) v.1 >>= λ vs. found (v.0 ∷ vs.0) vs.1) (p.again middle)
      ∙ ap (λ (o : Option (List A × List ℕ)). o >>= λ vs. found (x ∷ vs.0) vs.1) e in
      ap (several at (length xs)) (append_assoc so_far.text p.text middle)
      ∙ so_far.again (p.text ++ middle) rest
      (subst (λ (n : ℕ). several at n (p.text ++ middle) ≡ Some (drop i xs, rest)) (sym more) (read ∙ ap (λ (l : List A). found l rest) (sym here)));
})

pub all_put : {A : Type 0} (at : Reading A) (xs : List A) (i : ℕ) (old new : List ℕ) → length xs ≤ i → PutsFront at xs i old new
    → Puts (several at (length xs)) xs old new
unfolding several
all_put {A} at xs i old new le p =
    let none : length xs - i ≡ 0 = omega arith in
    let nil : drop i xs ≡ [] = drop_all xs i le in
    record {
      text = p.text;
      is = p.is;
      again = λ rest. p.again rest rest (subst (λ (n : ℕ). several at n rest ≡ Some (drop i xs, rest)) (sym none) (ap (λ (l : List A). found l rest) (sym nil)));
    }
