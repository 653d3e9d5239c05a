mod Places
mod Polls
mod Runs
mod AccountLemmas
mod RegistrationLemmas
mod TimeoutLemmas
