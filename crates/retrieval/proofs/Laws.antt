-- The laws of the schedule rule by name, from the files that prove them.
pub use Rattle.retrieval.proofs.CarryLaws.{due-carry, just_in_time-at, just_in_time-helds, profile-at, held_at, length-just_in_time, carry-drop, peak-drop, prefetch, carry-peak, prefetch-peak, prefetch-largest, carry-mono, profile-mono, peak-mono, large-carry, large-profile, get_or-largest, carry-bound, largest-peak, profile-bound}
pub use Rattle.retrieval.proofs.Minimality.{just_in_time-reads, just_in_time-schedule, reads-carry, schedule-carry, reads-least, reads-helds, reads-peak, helds-at, exists-first, exists_iff, exists-first-iff, just_in_time-last, just_in_time-before, exists_by-carry, exists_by-iff, exists_by-test, carry-paced, paced-carry, exists-paced}
pub use Rattle.retrieval.proofs.ReserveLaws.{serves-iff, schedule-mono, serves-mono, serves-large, film-serves, serves-above, least-unique, serves-dec, least-below, largest-serves, least-exists, least-bound, serves_by-iff, serves_by-yes, serves_by-no, serves_by-over, serves_by-test, least_reserve-least}
