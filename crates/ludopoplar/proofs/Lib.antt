-- The laws that belong to no one function.
mod NumberLaws
mod RateLaws
mod SessionLaws
mod PageLaws
mod CountLaws
mod FileLaws
mod CallLaws
mod BenchLaws
mod Examples
