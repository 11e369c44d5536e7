use Rattle.std.proofs.Common.{◌≡◌, ℕ, List, Option, Some, None, MatchOption}
use Rattle.object_words.specs.Contents.{words_at, content_of, overlay}
use Rattle.object_words.proofs.Overlays.{content-overlay, put_over}
use Rattle.object_words.proofs.laws.overlay_puts_over.Goals as goal

by_cases : (over : Option (List ℕ)) (result under : List ℕ) → result ≡ put_over over under → MatchOption over (result ≡ under) (λ words. result ≡ words)
by_cases None result under e = e
by_cases (Some words) result under e = e

pub returns : goal.returns
returns c = λ contents writes object h.
    by_cases (words_at writes object) (content_of (overlay contents writes) object) (content_of contents object) (content-overlay contents writes object h)
