-- Texts that are appended one after another.
use Rattle.std.proofs.Common.{◌≡◌, ℕ, List, ◌++◌, ap, ◌∙◌, append_assoc}

-- two texts behind another
pub both : (old first second middle new : List ℕ) → middle ≡ old ++ first → new ≡ middle ++ second → new ≡ old ++ (first ++ second)
both old first second middle new one two = two ∙ ap (λ t. t ++ second) one ∙ append_assoc old first second

pub three : (old first second third one two new : List ℕ) → one ≡ old ++ first → two ≡ one ++ second → new ≡ two ++ third
    → new ≡ old ++ (first ++ second ++ third)
three old first second third one two new a b c = both old (first ++ second) third two new (both old first second one two a b) c

pub four : (old first second third fourth one two three_ new : List ℕ) → one ≡ old ++ first → two ≡ one ++ second → three_ ≡ two ++ third
    → new ≡ three_ ++ fourth → new ≡ old ++ (first ++ second ++ third ++ fourth)
four old first second third fourth one two three_ new a b c d =
    both old (first ++ second ++ third) fourth three_ new (three old first second third one two three_ a b c) d

pub five : (old first second third fourth fifth one two three_ four_ new : List ℕ) → one ≡ old ++ first → two ≡ one ++ second
    → three_ ≡ two ++ third → four_ ≡ three_ ++ fourth → new ≡ four_ ++ fifth → new ≡ old ++ (first ++ second ++ third ++ fourth ++ fifth)
five old first second third fourth fifth one two three_ four_ new a b c d e =
    both old (first ++ second ++ third ++ fourth) fifth four_ new (four old first second third fourth one two three_ four_ a b c d) e
